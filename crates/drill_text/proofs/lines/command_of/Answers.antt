-- What a line asks for: `command_of`, at the number of its words. Assumes nothing.
use mathlib.Core.Path.{sym, ◌∙◌}
use Rattle.drill_text.proofs.Asking.{line_long, line_two, line_three, line_four, line_five, line_other}
use Rattle.drill_text.proofs.lines.command_of.Goals as goal

pub returns-then-line-gt140000 : goal.returns-then-line-gt140000
returns-then-line-gt140000 c = line_long _ c.if-line-gt140000.true

pub returns-in-2 : goal.returns-in-2
returns-in-2 c =
    c.with_one.ensures ∙ line_two _ c.if-line-gt140000.false _ _ c.word-name.ensures.0 c.word.ensures.0 (sym c.word_count.ensures ∙ c.in-2.is)

pub returns-in-3 : goal.returns-in-3
returns-in-3 c =
    c.with_two.ensures ∙ line_three _ c.if-line-gt140000.false _ _ _ c.word-name.ensures.0 c.word-in-3.ensures.0 c.word-in-3-2.ensures.0 (sym c.word_count.ensures ∙ c.in-3.is)

pub returns-in-4 : goal.returns-in-4
returns-in-4 c =
    c.with_three.ensures ∙ line_four _ c.if-line-gt140000.false _ _ _ _ c.word-name.ensures.0 c.word-in-4.ensures.0 c.word-in-4-2.ensures.0 c.word-in-4-3.ensures.0 (sym c.word_count.ensures ∙ c.in-4.is)

pub returns-in-5 : goal.returns-in-5
returns-in-5 c =
    c.with_four.ensures ∙ line_five _ c.if-line-gt140000.false _ _ _ _ _ c.word-name.ensures.0 c.word-in-5.ensures.0 c.word-in-5-2.ensures.0 c.word-in-5-3.ensures.0 c.word-in-5-4.ensures.0 (sym c.word_count.ensures ∙ c.in-5.is)

pub returns-in_default : goal.returns-in_default
returns-in_default c =
    let others = c.in_default.in_default-own.rest in
    line_other _ c.if-line-gt140000.false _ c.word_count.ensures others.0.0.0.1 others.0.0.1 others.0.1 others.1
