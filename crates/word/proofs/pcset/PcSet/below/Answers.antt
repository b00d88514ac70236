-- At 64 or past it all times are below, and before that the mask has them. Assumes nothing.
use mathlib.Core.Path.{ap, ◌∙◌}
use Prim.Native.Nat.{ℕ, ◌-◌, ◌<◌}
use native.Mathlib.Omega.{arith}
use lib.Bits.{bit_and}
use Rattle.word.specs.Word.{bit}
use Rattle.word.proofs.Bits.{all_below, one_shl, bit_below}
use Rattle.word.proofs.pcset.PcSet.below.Goals as goal

pub returns-then-t-ge64 : goal.returns-then-t-ge64
returns-then-t-ge64 c u = let a = c.args in all_below 64 a.self.word a.t u (omega arith) (omega arith)

pub returns : goal.returns
returns c u =
    let a = c.args in
    let l : a.t < 64 = omega arith in
    ap (λ (m : ℕ). bit (bit_and a.self.word (m - 1)) u) (one_shl 64 a.t l) ∙ bit_below a.self.word a.t u
