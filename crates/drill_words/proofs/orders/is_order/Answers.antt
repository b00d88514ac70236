-- Whether a word is an order: whether each of its parts is a number. Assumes nothing.
use mathlib.Core.Path.{sym, ap, ◌∙◌}
use lib.Dec.{eqb}
use Rattle.std.proofs.Common.{rules}
use borrow.Author.Tests.{tests}
use Rattle.std.proofs.lemmas.Iterator.Search.{all_from_yields_List}
use Rattle.std.proofs.lemmas.Iterator.Splits.{YieldsList-from_slice_split}
use Rattle.drill_words.specs.Digits.{number_spelled}
use Rattle.drill_words.specs.Orders.{is_spelled, all_numbers, is_order}
use Rattle.drill_words.proofs.Parted.{parts_split}
use Rattle.drill_words.proofs.Ordering.{numbers_all}
use Rattle.drill_words.proofs.orders.is_order.Goals as goal

pub returns-then-is_dash : goal.returns-then-is_dash
unfolding is_order
returns-then-is_dash c = c.if-is_dash.true ∙ rw (sym c.is_dash.ensures ∙ c.if-is_dash.true)

pub returns-else-is_dash : goal.returns-else-is_dash
unfolding is_order
returns-else-is_dash c =
    let word = c.args.word.now in
    let split = c.split.ensures in
    rw (sym c.is_dash.ensures ∙ c.if-is_dash.false)
    (all_from_yields_List (λ p. is_spelled (number_spelled p)) _ _ _ c.all.ensures.ran
    (YieldsList-from_slice_split _ (λ b. eqb b 44) word split.rest split.done split.closure (λ x b q h. search (rules, tests)))
    (λ x b q h. search rules)
    ∙ numbers_all _ ∙ ap all_numbers (parts_split 44 word))
