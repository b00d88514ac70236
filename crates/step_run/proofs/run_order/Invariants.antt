use mathlib.Core.Path.{◌≡◌}
use Rattle.step_vars.specs.Inner.Variables.{Words}
use Rattle.step_run.specs.Runs.{ran}
use Rattle.step_run.specs.Inner.Runs.{ordered_steps}
use Rattle.step_run.proofs.run_order.Given as goal

abbrev pub invariant-loop-entry : goal.invariant-loop-entry
invariant-loop-entry l = Words l.vars × (record { words = l.vars; count = l.entry-index } ≡ ran l.circuit.types.now l.circuit.wiring.counts.now l.circuit.wiring.places.now l.circuit.sets.now l.initial.vars (ordered_steps l.list.nets.now l.list.times.now l.order l.entry-index)) × (l.done ≡ l.entry-index)
