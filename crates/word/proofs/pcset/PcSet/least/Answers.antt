use Rattle.word.proofs.Counts.{trailing_least}
use Rattle.word.proofs.pcset.PcSet.least.Goals as goal

pub returns : goal.returns
returns c = trailing_least 64 c.args.self.word
