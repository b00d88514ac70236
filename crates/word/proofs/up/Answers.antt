use Rattle.word.proofs.Bits.{bit_moved_up}
use Rattle.word.proofs.up.Goals as goal

pub returns : goal.returns
returns c t l = rw c.from.ensures (bit_moved_up 64 c.args.x c.args.low t l)
