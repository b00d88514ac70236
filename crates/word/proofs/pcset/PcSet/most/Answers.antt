use native.Mathlib.Omega.{arith}
use Prim.Native.Nat.{ℕ}
use native.Mathlib.Nat.{pos_of_ne-zero}
use mathlib.Core.Path.{sym, ap, ◌∙◌}
use Rattle.word.specs.Word.{bit}
use Rattle.word.proofs.Bits.{bit_none}
use Rattle.word.proofs.Sets.{greatest_none}
use Rattle.word.proofs.Counts.{leading_greatest}
use Rattle.word.proofs.pcset.PcSet.most.Goals as goal

pub returns-then-self-eq0 : goal.returns-then-self-eq0
returns-then-self-eq0 c =
    sym (greatest_none (bit c.args.self.word) 64 64 (λ s l. ap (λ (w : ℕ). bit w s) c.if-self-eq0.true ∙ bit_none s))

pub returns : goal.returns
returns c =
    omega (arith, leading_greatest 64 c.args.self.word 64 (pos_of_ne-zero c.if-self-eq0.false) (omega arith))
