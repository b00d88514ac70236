use mathlib.Core.Path.{sym}
use native.Mathlib.Omega.{arith}
use borrow.Author.Rules.{rules}
use Rattle.word.proofs.Bits.{test_bit, bit_high}
use Rattle.word.proofs.pcset.PcSet.has.Goals as goal

pub returns-then-t-ge64 : goal.returns-then-t-ge64
returns-then-t-ge64 c = sym (bit_high 64 c.args.self.word c.args.t (search rules) (omega arith))

pub returns : goal.returns
returns c = test_bit c.args.self.word c.args.t
