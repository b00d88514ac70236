-- `sheet_text::lines::put_card` meets its contract: its two halves, one after the other. Assumes nothing.
use mathlib.Core.Path.{◌≡◌, ap₂, ◌∙◌}
use native.Mathlib.Omega.{arith}
use lib.ListN.{length}
use Rattle.std.proofs.Common.{rules}
use Rattle.text.proofs.Texts.{puts_same, puts_then, put_lent}
use Rattle.rule.specs.Steps.{step_list}
use Rattle.card.specs.Session.{card_of}
use Rattle.card.proofs.Kept.{loaded_is, card_steps, steps_loaded}
use Rattle.sheet_text.specs.Lines.{blank, lf, first_line, card_text}
use Rattle.sheet_text.proofs.Lengths.{word_short}
use Rattle.sheet_text.proofs.lines.put_card.Goals as goal
use Rattle.sheet_text.proofs.lines.put_card.Goals.{After-steps_of}

pub put_named-requires : goal.put_named-requires
put_named-requires c = omega (arith, c.new-page.ensures.front, word_short c.args.depth blank (omega arith))

pub steps_of-requires : goal.steps_of-requires
steps_of-requires c l = c.requires.has_card

-- the number is the card's
steps_are : (c : After-steps_of) → (let s = c.args.s.now in c.steps_of.result ≡ length (step_list (card_of s)))
steps_are c = c.steps_of.ensures ∙ steps_loaded c.args.s.now (loaded_is c.args.s.now c.requires.has_card)

pub put_named-requires-2 : goal.put_named-requires-2
put_named-requires-2 c =
    omega (
      arith,
      c.new-page.ensures.front,
      c.put_named.ensures.put.end_is,
      word_short c.args.depth blank
          (omega arith),
      word_short c.steps_of.result lf
          (omega (
            arith,
            steps_are (goal.at.put_named-requires-2 c).After-steps_of,
            card_steps c.args.s.now
                c.requires.has_card,
          )),
    )

pub returns : goal.returns
unfolding card_text first_line
returns c =
    let page = c.new-page.ensures in
    put_lent page.same_room page.as_it_was page.front
    (puts_same (ap₂ first_line c.requires.depth_value (steps_are (goal.at.returns c).After-steps_of))
    (puts_then c.put_named.ensures c.put_named-2.ensures))
    (λ e. search rules)
