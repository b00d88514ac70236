-- Of an empty set nothing is left, and of any other all that is above its least time. Assumes nothing.
use mathlib.Core.Path.{◌≡◌, sym, ap, ◌∙◌}
use mathlib.Core.Bool.{◌&&◌, and-false}
use native.Mathlib.Omega.{arith}
use lib.Dec.{ltb}
use Rattle.word.specs.Word.{bit}
use Rattle.word.specs.Times.{least}
use Rattle.word.proofs.Bits.{bit_none}
use Rattle.word.proofs.Counts.{bit_without_least}
use Rattle.word.proofs.pcset.PcSet.without_least.Goals as goal

pub returns-then-self-eq0 : goal.returns-then-self-eq0
returns-then-self-eq0 c u =
    let w = c.args.self.word in
    let e : bit w u ≡ _ = ap (λ x. bit x u) c.if-self-eq0.true ∙ bit_none u in
    e ∙ sym (and-false (ltb (least (bit w) 64) u)) ∙ ap (λ b. ltb (least (bit w) 64) u && b) (sym e)

pub returns : goal.returns
returns c u = bit_without_least 64 c.args.self.word u (omega arith) (omega arith)
