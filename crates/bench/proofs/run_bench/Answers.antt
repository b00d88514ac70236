-- `bench::run_bench` meets its contract: the list is the card's, the order is judged from it, then 19 and 18, else the entries are done.
-- Assumes nothing.
use mathlib.Core.Path.{◌≡◌, refl, ◌∙◌}
use lib.ListN.{length}
use borrow.Author.Rules.{rules}
use Rattle.std.proofs.lemmas.Result.{err_from_is_err_and}
use Rattle.rule.specs.Steps.{step_list}
use Rattle.inputs.specs.Inputs.{given}
use Rattle.card.specs.Session.{card_of}
use Rattle.card.specs.Held.{HasCard}
use Rattle.step_orders.specs.Inner.Ready.{judged_in}
use Rattle.step_orders.specs.Orders.{order_judged}
use Rattle.step_list.proofs.Cards.{list_asked, list_total, list_few}
use Rattle.bench.proofs.Answers.{list_entry, verdict_is, passed_taken, order_faulty, order_many, order_short, order_done}
use Rattle.bench.proofs.run_bench.Goals as goal
use Rattle.bench.proofs.run_bench.Goals.{After-judge_order, After-put_list-total, Start}

card : (c : Start) → HasCard c.args.s.now
card c = c.requires.good.card (c.requires.good.rest c.requires.rested_value.0).0

-- the list that is put is the card's
total_is : (c : After-put_list-total) → c.put_list-total.result ≡ length (step_list (card_of c.args.s.now))
total_is c = list_total c.args.s.now ((let it : HasCard c.args.s.now = c.requires.good.card (c.requires.good.rest c.requires.rested_value.0).0 in it)) c.put_list-total.ensures

-- the order is judged by the session's own arrays
judged_by : (c : After-judge_order) → let s = c.args.s.now in c.judge_order.result ≡ judged_in s.counts s.places s.sets c.put_list-total.new.nets c.put_list-total.new.times c.put_list-total.result c.args.order.now
judged_by c =
    c.judge_order.ensures ∙ λ i. judged_in (c.wiring.ensures.0 i) (c.wiring.ensures.1 i) c.args.s.now.sets c.put_list-total.new.nets c.put_list-total.new.times c.put_list-total.result c.args.order.now

judged : (c : After-judge_order) → c.judge_order.result ≡ order_judged (card_of c.args.s.now) c.args.order.now
judged c = verdict_is c.args.s.now ((let it : HasCard c.args.s.now = c.requires.good.card (c.requires.good.rest c.requires.rested_value.0).0 in it)) c.put_list-total.ensures (search rules) (search rules) c.args.order.now _ (judged_by c)

pub put_list-total-requires : goal.put_list-total-requires
put_list-total-requires c = record { gates_bound = list_asked c.args.s.now (card (goal.at.put_list-total-requires c).Start); nets_len = search rules }

pub wiring-requires : goal.wiring-requires
wiring-requires c = card (goal.at.wiring-requires c).Start

pub invariant_of-list : goal.invariant_of-list
invariant_of-list c = record { few = list_few c.args.s.now (card (goal.at.invariant_of-list c).Start) c.put_list-total.ensures }

pub judge_order-requires : goal.judge_order-requires
judge_order-requires c = list_entry c.args.s.now (card (goal.at.judge_order-requires c).Start) c.put_list-total.ensures (search rules) (search rules)

pub returns-then-total-k : goal.returns-then-total-k
returns-then-total-k c =
    let a = c.args in
    order_many a.s.now (given a.s.now.kinds a.v.now) a.order.now a.k a.room.now _ (judged (goal.at.returns-then-total-k c).After-judge_order) c.in_ok-judge_order.was _ (total_is (goal.at.returns-then-total-k c).After-put_list-total) _ c.if-total-k.true refl

pub returns-then-room-total : goal.returns-then-room-total
returns-then-room-total c =
    let a = c.args in
    order_short a.s.now (given a.s.now.kinds a.v.now) a.order.now a.k a.room.now _ (judged (goal.at.returns-then-room-total c).After-judge_order) c.in_ok-judge_order.was _ (total_is (goal.at.returns-then-room-total c).After-put_list-total) _ c.if-total-k.false c.if-room-total.true
    refl

pub do_first-requires : goal.do_first-requires
do_first-requires c =
    record { good = c.requires.good; rested_value = c.requires.rested_value; taken = passed_taken c.args.s.now (card (goal.at.do_first-requires c).Start) c.put_list-total.ensures (search rules) (search rules) c.args.order.now _ (judged_by (goal.at.do_first-requires c).After-judge_order) c.in_ok-judge_order.was; first_le_total = (c.if-total-k.false, c.if-room-total.false) }

pub returns-in_err-judge_order : goal.returns-in_err-judge_order
returns-in_err-judge_order c =
    let a = c.args in
    let p = err_from_is_err_and c.from_residual.result c.from_residual.ensures.1 in
    rw (p.1, p.2) (order_faulty a.s.now (given a.s.now.kinds a.v.now) a.order.now a.k a.room.now _ (judged (goal.at.returns-in_err-judge_order c).After-judge_order) _ _ c.in_err-judge_order.was refl)

pub returns : goal.returns
returns c =
    let a = c.args in
    order_done a.s.now (given a.s.now.kinds a.v.now) a.order.now a.k a.room.now _ (judged (goal.at.returns c).After-judge_order) c.in_ok-judge_order.was _ (total_is (goal.at.returns c).After-put_list-total) _ c.if-total-k.false c.if-room-total.false
    c.do_first.ensures
