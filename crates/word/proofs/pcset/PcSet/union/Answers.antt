use Rattle.word.proofs.Bits.{bit-or}
use Rattle.word.proofs.pcset.PcSet.union.Goals as goal

pub returns : goal.returns
returns c t = bit-or c.args.self.word c.args.other.word t
