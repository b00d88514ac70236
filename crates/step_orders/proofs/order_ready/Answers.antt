-- `step_orders::order_ready` meets its contract. The loop's invariant: whether all that each step reads is there when it is reached is now asked of
-- what is left of the order, with the variables that are there now. Assumes nothing.
use mathlib.Core.Path.{◌≡◌, sym, ap, ◌∙◌}
use native.Mathlib.Omega.{arith}
use lib.ListN.{get_or}
use Rattle.step_orders.proofs.Marking.{ready_stop, ready_turn, ready_end}
use Rattle.step_orders.proofs.order_ready.Goals as goal
use Rattle.step_orders.proofs.order_ready.Goals.{After-step-g}

net_is : (c : After-step-g) → c.step-g.result.0 ≡ get_or c.args.list.nets.now (get_or c.args.order.now c.loop-entry.entry-index 0) 0
net_is c = c.step-g.ensures.0 ∙ ap (λ e. get_or c.args.list.nets.now e 0) c.from.ensures

time_is : (c : After-step-g) → c.step-g.result.1 ≡ get_or c.args.list.times.now (get_or c.args.order.now c.loop-entry.entry-index 0) 0
time_is c = c.step-g.ensures.1 ∙ ap (λ e. get_or c.args.list.times.now e 0) c.from.ensures

pub returns-then-not-reads_done : goal.returns-then-not-reads_done
returns-then-not-reads_done c =
    let a = c.args in
    let w = a.circuit.wiring in
    let l = c.loop-entry in
    let at = (goal.at.returns-then-not-reads_done c).After-step-g in
    sym (l.invariant
    ∙ ready_stop w.counts.now w.places.now a.circuit.sets.now a.list.nets.now a.list.times.now a.order.now l.done l.entry-index c.step-g.result.0 c.step-g.result.1 (omega arith) (net_is at) (time_is at)
    (sym c.reads_done.ensures ∙ c.if-not-reads_done.true))

pub loop-entry-preserved : goal.loop-entry-preserved
loop-entry-preserved c =
    let a = c.args in
    let w = a.circuit.wiring in
    let l = c.loop-entry in
    let at = (goal.at.loop-entry-preserved c).After-step-g in
    l.invariant
    ∙ ready_turn w.counts.now w.places.now a.circuit.sets.now a.list.nets.now a.list.times.now a.order.now l.done l.entry-index c.step-g.result.0 c.step-g.result.1 (omega arith) (net_is at) (time_is at)
    c.put.result (sym c.reads_done.ensures ∙ c.if-not-reads_done.false) (omega (arith, c.put.type_inv)) c.put.ensures

pub returns : goal.returns
returns c =
    let a = c.args in
    let w = a.circuit.wiring in
    let l = c.loop-entry in
    sym (l.invariant ∙ ready_end w.counts.now w.places.now a.circuit.sets.now a.list.nets.now a.list.times.now a.order.now l.done l.entry-index (omega arith))
