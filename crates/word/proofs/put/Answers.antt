-- `word::put` meets its contract: a one is put by `|`, a zero by `& !`. Assumes nothing.
use mathlib.Core.Path.{sym, ap, ◌∙◌}
use mathlib.Core.Bool.{cond}
use Prim.Native.Nat.{◌-◌, ◌^◌}
use lib.Bits.{bit_and, bit_or}
use lib.Dec.{eqb}
use Rattle.word.specs.Word.{bit}
use Rattle.word.proofs.Bits.{one_shl, bit_put_one, bit_put_none}
use Rattle.word.proofs.put.Goals as goal

pub returns-then-b : goal.returns-then-b
returns-then-b c u l =
    let a = c.args in
    ap (λ m. bit (bit_or a.w m) u) (one_shl 64 a.t c.requires) ∙ bit_put_one a.w a.t u ∙ ap (λ b. cond (eqb u a.t) b (bit a.w u)) (sym c.if-b.true)

pub returns-else-b : goal.returns-else-b
returns-else-b c u l =
    let a = c.args in
    ap (λ m. bit (bit_and a.w ((2 ^ 64 - 1) - m)) u) (one_shl 64 a.t c.requires)
    ∙ bit_put_none 64 a.w a.t u c.requires l ∙ ap (λ b. cond (eqb u a.t) b (bit a.w u)) (sym c.if-b.false)
