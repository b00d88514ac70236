-- `session::settle` meets its contract: from the constants the fields end in the settled values, and the words are flat. Assumes nothing.
use mathlib.Core.Path.{ap, ◌∙◌}
use lib.ListN.{length}
use Rattle.lists.proofs.Listed.{length_listed}
use Rattle.fields.specs.Inner.Fields.{advanced}
use Rattle.card.specs.Held.{HasCard}
use Rattle.session.proofs.Held.{front_gates, feeds_fit}
use Rattle.session.proofs.Settling.{fields_settle}
use Rattle.session.proofs.settle.Goals as goal
use Rattle.session.proofs.settle.Goals.{Start}

-- the session holds a card
card : (c : Start) → HasCard c.args.s.now
card c = c.requires.good.card c.requires.loaded_value.0

pub wiring-requires : goal.wiring-requires
wiring-requires c = card (goal.at.wiring-requires c).Start

pub gate_list-requires : goal.gate_list-requires
gate_list-requires c = card (goal.at.gate_list-requires c).Start

pub advance-requires : goal.advance-requires
advance-requires c =
    let s = c.args.s.now in
    let h = card (goal.at.advance-requires c).Start in
    let fed = feeds_fit s h c.args.v.now c.requires.loaded_value.1 in
    let front = front_gates s h _ c.gate_list.ensures in
    record {
      gates = λ i l. rw c.wiring.ensures.0 (front.0 i l);
      by_index = front.1;
      v_len_bound = (fed.0, fed.1, ap length c.flats-words.ensures ∙ length_listed _ 256);
    }

pub returns : goal.returns
returns c =
    let s = c.args.s.now in
    let h = card (goal.at.returns c).Start in
    let after = c.advance.ensures ∙ λ i. advanced s.feeds s.types (c.wiring.ensures.0 i) (c.wiring.ensures.1 i) (c.gate_list.ensures i) c.flats-words.result c.args.v.now in
    fields_settle s h c.args.v.now c.requires.loaded_value.1 c.constants_of-constants.result c.tops-before.result c.flats-words.result _ c.flats-flat.result
    c.constants_of-constants.ensures c.flats-words.ensures after c.tops-before.ensures c.flats-flat.ensures
