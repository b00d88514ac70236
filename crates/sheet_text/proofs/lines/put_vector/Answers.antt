-- `sheet_text::lines::put_vector` meets its contract: the slices that history fills hold what the lines say. Assumes nothing.
use mathlib.Core.Path.{ap}
use mathlib.Core.List.{◌++◌}
use native.Mathlib.Omega.{arith}
use Rattle.std.proofs.Common.{rules}
use Rattle.card.proofs.Kept.{few, card_depth}
use Rattle.history.proofs.Ran.{holds}
use Rattle.text.specs.Text.{named}
use Rattle.text.proofs.Texts.{puts_same, puts_then, put_lent}
use Rattle.sheet_text.specs.Lines.{lf, vector_word, vector_text}
use Rattle.sheet_text.proofs.Lengths.{word_short}
use Rattle.sheet_text.proofs.Cards.{lines_are}
use Rattle.sheet_text.proofs.lines.put_vector.Goals as goal

pub put_named-requires : goal.put_named-requires
put_named-requires c = omega (arith, c.new-page.ensures.front, word_short c.args.number lf (omega arith))

pub put_nets-requires : goal.put_nets-requires
put_nets-requires c =
    let h = holds c.args.s.now c.requires.good c.requires.rested_value.0 in (
      omega (arith, c.requires.rested_value.1, card_depth c.args.s.now h),
      few c.args.s.now h,
      omega
          (arith, few c.args.s.now h, c.new-page.ensures.front, c.put_named.ensures.put.end_is, word_short c.args.number lf (omega arith)),
    )

pub returns : goal.returns
unfolding vector_text
returns c =
    let s = c.args.s.now in
    let page = c.new-page.ensures in
    let h = holds s c.requires.good c.requires.rested_value.0 in
    put_lent page.same_room page.as_it_was page.front
    (puts_same
    (ap (λ xs. named vector_word c.args.number lf ++ xs)
    (lines_are s h c.requires.rested_value.0 _ _ _ _
    c.history.ensures c.args.depth
    c.requires.rested_value.1))
    (puts_then c.put_named.ensures c.put_nets.ensures))
    (λ e. search rules)
