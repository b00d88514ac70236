-- Of a word nothing is left at 64 or past it, and before that the mask has the times from t on. Assumes nothing.
use mathlib.Core.Path.{sym, ap, ◌∙◌}
use Prim.Native.Nat.{ℕ, ◌-◌, ◌^◌, ◌<◌}
use native.Mathlib.Omega.{arith}
use lib.Bits.{bit_and}
use Rattle.word.specs.Word.{bit}
use Rattle.word.proofs.Bits.{bit_none, past_none, one_shl, bit_mask_from}
use Rattle.word.proofs.pcset.PcSet.not_below.Goals as goal

pub returns-then-t-ge64 : goal.returns-then-t-ge64
returns-then-t-ge64 c u =
    let a = c.args in
    bit_none u ∙ sym (past_none 64 a.self.word a.t u (omega arith) (omega arith))

pub returns : goal.returns
returns c u =
    let a = c.args in
    let l : a.t < 64 = omega arith in
    ap (λ (m : ℕ). bit (bit_and a.self.word ((2 ^ 64 - 1) - (m - 1))) u) (one_shl 64 a.t l) ∙ bit_mask_from 64 a.self.word a.t u l (omega arith)
