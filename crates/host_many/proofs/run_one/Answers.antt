-- `host_many::run_one` meets its contract: by either engine its arrays are the card's. Assumes nothing.
use mathlib.Core.Path.{sym, subst, ◌∙◌}
use Rattle.rule.specs.Steps.{step_list}
use Rattle.card.specs.Session.{card_of}
use Rattle.fields.specs.Inner.Fields.{advanced}
use Rattle.session.proofs.Held.{front_gates, feeds_fit}
use Rattle.step_run.specs.Inner.Runs.{Doable, stepped}
use Rattle.step_run.proofs.Runs.{steps_doable}
use Rattle.rule.proofs.StepLists.{list_only}
use Rattle.host_many.specs.Inner.Words.{words_by}
use Rattle.host_many.proofs.run_one.Goals as goal

pub advance-requires : goal.advance-requires
advance-requires c =
    let s = c.args.s.now in
    let fed = feeds_fit s c.requires.held.0 c.args.v.now c.requires.held.1 in
    let front = front_gates s c.requires.held.0 _ c.gate_list.ensures in
    record { gates = λ i l. rw c.wiring.ensures.0 (front.0 i l); by_index = front.1; v_len_bound = (fed.0, fed.1, c.requires.held.2) }

pub returns-in-Fields : goal.returns-in-Fields
returns-in-Fields c =
    let s = c.args.s.now in
    let after = c.advance.ensures ∙ λ i. advanced s.feeds s.types (c.wiring.ensures.0 i) (c.wiring.ensures.1 i) (c.gate_list.ensures i) c.args.words.now c.args.v.now in
    (λ i. record { words = after i; count = 0 }) ∙ λ i. words_by (sym c.in-Fields.is i) s c.args.words.now c.args.v.now

pub advance-left-requires : goal.advance-left-requires
advance-left-requires c =
    let s = c.args.s.now in
    let h = c.requires.held.0 in
    let named = c.requires.listed c.in-Steps.is in
    record {
      v_len_bound = feeds_fit s h c.args.v.now c.requires.held.1;
      doable = rw c.wiring-in-Steps.ensures.0 (subst (Doable s.types s.counts) (sym named) (steps_doable s h (step_list (card_of s)) (list_only (card_of s))));
    }

pub returns-in-Steps : goal.returns-in-Steps
returns-in-Steps c =
    let s = c.args.s.now in
    let named = c.requires.listed c.in-Steps.is in
    let w = c.wiring-in-Steps.ensures in
    c.advance-left.ensures ∙ (λ i. stepped s.feeds s.types (w.0 i) (w.1 i) s.sets (named i) c.args.words.now c.args.v.now)
    ∙ λ i. words_by (sym c.in-Steps.is i) s c.args.words.now c.args.v.now
