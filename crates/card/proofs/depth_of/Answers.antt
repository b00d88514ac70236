-- `card::depth_of` meets its contract: the levels worked out from the wiring are the card's. Assumes nothing.
use mathlib.Core.Path.{◌≡◌, ap, ◌∙◌}
use mathlib.Core.Bool.{true}
use Prim.Native.Nat.{◌+◌}
use borrow.Author.Tests.{not-true}
use Rattle.card_wiring.specs.Inner.Wires.{delay_at, backs, highest}
use Rattle.card.specs.Held.{HasCard}
use Rattle.card.specs.Asked.{depth_asked}
use Rattle.card.proofs.Kept.{few, depth_is}
use Rattle.card.proofs.depth_of.Goals as goal
use Rattle.card.proofs.depth_of.Goals.{Else-not-s}

-- past the test a card is loaded
loaded : (c : Else-not-s) → c.args.s.now.loaded ≡ true
loaded c = c.if-not-s.false

card : (c : Else-not-s) → HasCard c.args.s.now
card c = c.requires ((let it : c.args.s.now.loaded ≡ true = c.if-not-s.false in it))

pub returns-then-not-s : goal.returns-then-not-s
unfolding depth_asked
returns-then-not-s c = rw (not-true c.args.s.now.loaded c.if-not-s.true-raw)

pub wiring-requires : goal.wiring-requires
wiring-requires c = card (goal.at.wiring-requires c).Else-not-s

pub highest_of-requires : goal.highest_of-requires
highest_of-requires c = few c.args.s.now (card (goal.at.highest_of-requires c).Else-not-s)

pub returns : goal.returns
unfolding depth_asked
returns c =
    let s = c.args.s.now in
    let e = c.wiring.ensures in
    let levels : c.gates_back-levels.result ≡ backs delay_at s.counts s.places (s.nets + 1) = rw (e.0, e.1, e.2) at c.gates_back-levels.ensures in
    c.highest_of.ensures ∙ ap (λ xs. highest xs s.nets) levels ∙ depth_is s (card (goal.at.returns c).Else-not-s) ∙ rw (loaded (goal.at.returns c).Else-not-s)
