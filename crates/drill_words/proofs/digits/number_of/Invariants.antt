use mathlib.Core.Path.{◌≡◌}
use lib.ListN.{drop}
use Rattle.drill_words.specs.Digits.{spelled_from, number_spelled}
use Rattle.drill_words.proofs.digits.number_of.Given as goal

abbrev pub invariant-loop-b : goal.invariant-loop-b
invariant-loop-b l = spelled_from l.value (drop l.b-index l.word) ≡ number_spelled l.word
