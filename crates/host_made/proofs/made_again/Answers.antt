-- `host_made::made_again` meets its contract. Assumes nothing.
use mathlib.Core.Path.{◌≡◌, sym, ap, ◌∙◌}
use mathlib.Core.Bool.{cond}
use Prim.Native.Nat.{◌+◌, ◌≤◌}
use lib.ListN.{get_or}
use Rattle.lists.specs.Places.{clear}
use Rattle.card_records.specs.Bytes.{u16_at}
use Rattle.host_bytes.specs.Layout.{card_at, longest_card, card_to}
use Rattle.host_made.specs.Made.{broken, held, made_loaded}
use Rattle.host_made.proofs.Making.{if_passed, again_none, again_long, again_unclear, again_loaded}
use Rattle.host_made.proofs.made_again.Goals as goal
use Rattle.host_made.proofs.made_again.Goals.{Else-b-from, After-is_clear-2}

-- byte 0 tells a card; its length is no longer than a card's, and it is the bytes past it that are looked at
some : (c : Else-b-from) → ¬ (get_or c.args.b.now 0 0 ≡ 0)
some c e = c.if-b-from.false (e ∙ sym c.from.ensures)

low : (c : After-is_clear-2) → u16_at c.args.b.now 1 ≤ longest_card
low c = let e = c.u16_at-len.ensures.0 in rw e at c.if-len-gt-LONGEST_CARD.false

past : (c : After-is_clear-2) → (let b = c.args.b.now in c.is_clear-2.result ≡ clear b (card_at + u16_at b 1) card_to)
past c = let e = c.u16_at-len.ensures.0 in rw e at c.is_clear-2.ensures

pub returns-then-b-from : goal.returns-then-b-from
returns-then-b-from c =
    let b = c.args.b.now in
    c.then_some.ensures ∙ if_passed c.is_clear.result c.empty.result ∙ (λ i. cond (c.is_clear.ensures i) (held (c.empty.ensures i)) broken) ∙ again_none b (c.if-b-from.true ∙ c.from.ensures)

pub returns-then-len-gt-LONGEST_CARD : goal.returns-then-len-gt-LONGEST_CARD
returns-then-len-gt-LONGEST_CARD c =
    let e = c.u16_at-len.ensures.0 in
    again_long c.args.b.now (some (goal.at.returns-then-len-gt-LONGEST_CARD c).Else-b-from) (rw e at c.if-len-gt-LONGEST_CARD.true)

pub returns-then-not-is_clear : goal.returns-then-not-is_clear
returns-then-not-is_clear c =
    let p = (goal.at.returns-then-not-is_clear c).After-is_clear-2 in
    again_unclear c.args.b.now (some (goal.at.returns-then-not-is_clear c).Else-b-from) (low p) (sym (past p) ∙ c.if-not-is_clear.true)

pub returns : goal.returns
returns c =
    let b = c.args.b.now in
    let p = (goal.at.returns c).After-is_clear-2 in
    c.made_loaded.ensures ∙ ap (made_loaded b) c.u16_at-len.ensures.0
    ∙ again_loaded b (some (goal.at.returns c).Else-b-from) (low p) (sym (past p) ∙ c.if-not-is_clear.false)
