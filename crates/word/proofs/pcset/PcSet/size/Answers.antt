use native.Mathlib.Omega.{arith}
use Rattle.word.proofs.Counts.{ones_count}
use Rattle.word.proofs.pcset.PcSet.size.Goals as goal

pub returns : goal.returns
returns c = ones_count 64 c.args.self.word (omega arith)
