-- A number with its last digit off is less. Assumes nothing.
use Rattle.drill.proofs.answers.Output.+put_hex.Given as goal

abbrev pub decreases-put_hex : goal.decreases-put_hex
decreases-put_hex l = l.n
