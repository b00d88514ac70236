-- `card::steps_of` meets its contract: the sizes of the gates' sets, added, are the number of steps. Assumes nothing.
use mathlib.Core.Path.{◌≡◌, ap, ◌∙◌}
use mathlib.Core.Bool.{true}
use borrow.Author.Tests.{not-true}
use Rattle.card_wiring.specs.Inner.Wires.{sizes_of}
use Rattle.card.specs.Held.{HasCard}
use Rattle.card.specs.Asked.{steps_asked}
use Rattle.card.proofs.Kept.{gates_few, steps_is}
use Rattle.card.proofs.steps_of.Goals as goal
use Rattle.card.proofs.steps_of.Goals.{Else-not-s}

-- past the test a card is loaded
loaded : (c : Else-not-s) → c.args.s.now.loaded ≡ true
loaded c = c.if-not-s.false

card : (c : Else-not-s) → HasCard c.args.s.now
card c = c.requires ((let it : c.args.s.now.loaded ≡ true = c.if-not-s.false in it))

pub returns-then-not-s : goal.returns-then-not-s
unfolding steps_asked
returns-then-not-s c = rw (not-true c.args.s.now.loaded c.if-not-s.true-raw)

pub gate_list-requires : goal.gate_list-requires
gate_list-requires c = card (goal.at.gate_list-requires c).Else-not-s

pub sizes_of-requires : goal.sizes_of-requires
sizes_of-requires c = gates_few c.args.s.now (card (goal.at.sizes_of-requires c).Else-not-s) c.gate_list.result.now c.gate_list.ensures

pub returns : goal.returns
unfolding steps_asked
returns c =
    let s = c.args.s.now in
    c.sizes_of.ensures ∙ ap (sizes_of s.sets) c.gate_list.ensures ∙ steps_is s (card (goal.at.returns c).Else-not-s) ∙ rw (loaded (goal.at.returns c).Else-not-s)
