-- `step_run::run_steps` meets its contract: it goes along the card's list. Assumes nothing.
use mathlib.Core.Path.{refl, ◌∙◌}
use Rattle.rule.specs.Steps.{step_list}
use Rattle.inputs.specs.Inputs.{given}
use Rattle.card.specs.Session.{card_of}
use Rattle.card.specs.Held.{HasCard}
use Rattle.session.proofs.Held.{feeds_fit}
use Rattle.session.proofs.Moving.{tops_ends}
use Rattle.step_list.proofs.Cards.{list_asked}
use Rattle.step_run.specs.Inner.Runs.{stepped}
use Rattle.step_run.proofs.Runs.{ListReady, list_ready}
use Rattle.step_run.proofs.Vectors.{stepped_run, run_made}
use borrow.Author.Rules.{rules}
use Rattle.step_run.proofs.run_steps.Goals as goal
use Rattle.step_run.proofs.run_steps.Goals.{After-put_list-total, Start}

card : (c : Start) → HasCard c.args.s.now
card c = c.requires.good.card (c.requires.good.rest c.requires.rested_value.0).0

-- the list that is put is the card's
ready : (c : After-put_list-total) → ListReady c.args.s.now c.put_list-total.new.nets c.put_list-total.new.times c.put_list-total.result
ready c = list_ready c.args.s.now ((let it : HasCard c.args.s.now = c.requires.good.card (c.requires.good.rest c.requires.rested_value.0).0 in it)) c.put_list-total.ensures (search rules) (search rules)

pub put_list-total-requires : goal.put_list-total-requires
put_list-total-requires c = record { gates_bound = list_asked c.args.s.now (card (goal.at.put_list-total-requires c).Start); nets_len = search rules }

pub wiring-requires : goal.wiring-requires
wiring-requires c = card (goal.at.wiring-requires c).Start

pub invariant_of-list : goal.invariant_of-list
invariant_of-list c = record { few = (ready (goal.at.invariant_of-list c).After-put_list-total).few }

pub advance-left-requires : goal.advance-left-requires
advance-left-requires c =
    let s = c.args.s.now in
    let at = goal.at.advance-left-requires c in
    record { v_len_bound = feeds_fit s (card at.Start) c.args.v.now c.requires.rested_value.1; doable = rw c.wiring.ensures.0 (ready at.After-put_list-total).doable }

pub returns : goal.returns
returns c =
    let s = c.args.s.now in
    let v = c.args.v.now in
    let left = c.advance-left.ensures ∙ (λ i. stepped s.feeds s.types (c.wiring.ensures.0 i) (c.wiring.ensures.1 i) s.sets ((ready (goal.at.returns c).After-put_list-total).named i) s.words v) ∙ stepped_run s (card (goal.at.returns c).Start) v c.requires.rested_value.1 (step_list (card_of s)) in
    run_made s (given s.kinds v) (step_list (card_of s)) _ _ _ left (tops_ends s _ c.tops-s.ensures) refl
