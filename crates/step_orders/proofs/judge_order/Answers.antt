-- `step_orders::judge_order` meets its contract: its tests are 15, 16, 17 in this order. Assumes nothing.
use mathlib.Core.Path.{sym, ◌∙◌}
use mathlib.Core.Bool.{true, false}
use Rattle.step_orders.proofs.Marking.{judged_length, judged_entry, judged_ready, entry_fits}
use Rattle.step_orders.proofs.judge_order.Goals as goal

pub returns-then-order-list : goal.returns-then-order-list
returns-then-order-list c = let a = c.args in let w = a.circuit.wiring in judged_length w.counts.now w.places.now a.circuit.sets.now a.list.nets.now a.list.times.now a.list.total a.order.now c.if-order-list.true

pub returns-then-not-entries_fit : goal.returns-then-not-entries_fit
returns-then-not-entries_fit c = let a = c.args in let w = a.circuit.wiring in judged_entry w.counts.now w.places.now a.circuit.sets.now a.list.nets.now a.list.times.now a.list.total a.order.now c.if-order-list.false (sym c.entries_fit.ensures ∙ c.if-not-entries_fit.true)

pub order_ready-requires : goal.order_ready-requires
order_ready-requires c =
    let a = c.args in
    let w = a.circuit.wiring in
    entry_fits w.counts.now w.places.now a.circuit.sets.now a.list.nets.now a.list.times.now a.list.total a.order.now (sym c.entries_fit.ensures ∙ c.if-not-entries_fit.false) c.requires

pub returns-then-not-order_ready : goal.returns-then-not-order_ready
returns-then-not-order_ready c =
    let a = c.args in
    let w = a.circuit.wiring in
    judged_ready w.counts.now w.places.now a.circuit.sets.now a.list.nets.now a.list.times.now a.list.total a.order.now c.if-order-list.false (sym c.entries_fit.ensures ∙ c.if-not-entries_fit.false) false (sym c.order_ready.ensures ∙ c.if-not-order_ready.true)

pub returns : goal.returns
returns c =
    let a = c.args in
    let w = a.circuit.wiring in
    judged_ready w.counts.now w.places.now a.circuit.sets.now a.list.nets.now a.list.times.now a.list.total a.order.now c.if-order-list.false (sym c.entries_fit.ensures ∙ c.if-not-entries_fit.false) true (sym c.order_ready.ensures ∙ c.if-not-order_ready.false)
