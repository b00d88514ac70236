use mathlib.Core.Path.{◌≡◌}
use Rattle.step_vars.specs.Inner.Variables.{Words}
use Rattle.step_list.specs.Inner.Listing.{steps_named}
use Rattle.step_run.specs.Runs.{ran}
use Rattle.step_run.proofs.run_list.Given as goal

abbrev pub invariant-loop-e : goal.invariant-loop-e
invariant-loop-e l = Words l.vars × (record { words = l.vars; count = l.e } ≡ ran l.circuit.types.now l.circuit.wiring.counts.now l.circuit.wiring.places.now l.circuit.sets.now l.initial.vars (steps_named l.list.nets.now l.list.times.now l.e)) × (l.done ≡ l.e)
