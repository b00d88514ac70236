use Rattle.word.proofs.Bits.{bit_raised}
use Rattle.word.proofs.pcset.PcSet.raise.Goals as goal

pub returns : goal.returns
returns c t l = bit_raised 64 c.args.self.word t l
