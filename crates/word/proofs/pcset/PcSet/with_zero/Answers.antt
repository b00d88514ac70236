use Rattle.word.proofs.Bits.{bit_with_zero}
use Rattle.word.proofs.pcset.PcSet.with_zero.Goals as goal

pub returns : goal.returns
returns c t = bit_with_zero c.args.self.word t
