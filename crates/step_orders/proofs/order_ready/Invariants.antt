use mathlib.Core.Path.{◌≡◌}
use lib.ListN.{drop, replicate}
use Rattle.step_orders.specs.Inner.Ready.{order_steps, ready_in}
use Rattle.step_orders.proofs.order_ready.Given as goal

abbrev pub invariant-loop-entry : goal.invariant-loop-entry
invariant-loop-entry l =
    ready_in l.circuit.wiring.counts.now l.circuit.wiring.places.now l.circuit.sets.now (replicate 256 1) (order_steps l.list.nets.now l.list.times.now l.order) ≡ ready_in l.circuit.wiring.counts.now l.circuit.wiring.places.now l.circuit.sets.now l.done (order_steps l.list.nets.now l.list.times.now (drop l.entry-index l.order))
