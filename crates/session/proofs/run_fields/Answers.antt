-- `session::run_fields` meets its contract: the before values are the last values at 63, and the fields from the last words are the rule's histories.
-- Assumes nothing.
use mathlib.Core.Path.{ap, ◌∙◌}
use Rattle.fields.specs.Inner.Fields.{advanced}
use Rattle.card.proofs.Kept.{order_fits, card_wires, card_all_fit, gates_front}
use Rattle.card.specs.Held.{HasCard}
use Rattle.session.specs.Good.{Rested}
use Rattle.session.proofs.Held.{front_gates, feeds_fit}
use Rattle.session.proofs.Moving.{words_long, fields_move}
use Rattle.session.proofs.run_fields.Goals as goal
use Rattle.session.proofs.run_fields.Goals.{Start}

-- a rested session holds a card
card : (c : Start) → HasCard c.args.s.now
card c = let g = c.requires.good in g.card (g.rest c.requires.rested_value.0).0

rested : (c : Start) → Rested c.args.s.now
rested c = (c.requires.good.rest c.requires.rested_value.0).1

pub invariant_of-wiring : goal.invariant_of-wiring
invariant_of-wiring c =
    let s = c.args.s.now in
    let h = card (goal.at.invariant_of-wiring c).Start in
    record { wires = card_wires s h; fits = card_all_fit s h }

pub shared_ref_as_front-advance : goal.shared_ref_as_front-advance
shared_ref_as_front-advance c = (order_fits c.args.s.now (card (goal.at.shared_ref_as_front-advance c).Start)).0

pub advance-requires : goal.advance-requires
advance-requires c =
    let s = c.args.s.now in
    let h = card (goal.at.advance-requires c).Start in
    let fed = feeds_fit s h c.args.v.now c.requires.rested_value.1 in
    let front = front_gates s h _ (gates_front s h) in
    record { gates = front.0; by_index = front.1; v_len_bound = (fed.0, fed.1, words_long s h (rested (goal.at.advance-requires c).Start)) }

pub returns : goal.returns
returns c =
    let s = c.args.s.now in
    let h = card (goal.at.returns c).Start in
    fields_move s h (rested (goal.at.returns c).Start) c.args.v.now c.requires.rested_value.1 c.tops-s.result _ c.tops-s.ensures
    (c.advance.ensures ∙ ap (λ gs. advanced s.feeds s.types s.counts s.places gs s.words c.args.v.now) (gates_front s h))
