-- `sheet_text::lines::put_values` meets its contract. The loop's invariant: the values at times below t are put. Assumes nothing.
use mathlib.Core.Path.{◌≡◌, sym, ap, ◌∙◌}
use Prim.Native.Nat.{◌+◌}
use native.Mathlib.Omega.{arith}
use Rattle.lists.specs.Listed.{listed}
use Rattle.lists.proofs.Listed.{length_listed, listed_none}
use Rattle.word.specs.Word.{val}
use Rattle.text.specs.Text.{digit}
use Rattle.text.proofs.Texts.{puts_none, puts_same}
use Rattle.sheet_text.specs.Lines.{values}
use Rattle.sheet_text.proofs.Lengths.{values_more, digit_is}
use Rattle.sheet_text.proofs.lines.put_values.Invariants.{shown}
use Rattle.sheet_text.proofs.lines.put_values.Goals as goal

pub loop-t-init : goal.loop-t-init
loop-t-init c = puts_same (sym (listed_none _)) (puts_none _)

pub put-requires : goal.put-requires
put-requires c = omega (arith, c.loop-t.invariant.put.end_is, length_listed (shown c.args.word) c.loop-t.t)

pub loop-t-preserved : goal.loop-t-preserved
loop-t-preserved c =
    let byte = digit_is c.has.result ∙ ap (λ b. digit (val b)) c.has.ensures in
    values_more (shown c.args.word) c.loop-t.t (ap digit c.from.ensures ∙ byte) c.loop-t.invariant c.put.ensures

pub returns : goal.returns
unfolding values
returns c =
    let e : c.loop-t.t ≡ c.args.depth + 1 = omega arith in
    puts_same (ap (listed (shown c.args.word)) e) c.loop-t.invariant
