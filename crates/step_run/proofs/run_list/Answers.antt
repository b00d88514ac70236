-- `step_run::run_list` meets its contract. The loop's invariant: the variables and the count are what the first e steps leave. Assumes nothing.
use mathlib.Core.Path.{◌≡◌, refl, ap, ◌∙◌}
use native.Mathlib.Omega.{arith}
use Rattle.step_vars.proofs.Stores.{step_words}
use Rattle.step_list.specs.Inner.Listing.{numbered_step, steps_named}
use Rattle.step_run.specs.Runs.{ran}
use Rattle.step_run.proofs.Runs.{doable_at, ran_none, ran_more}
use Rattle.step_run.proofs.run_list.Goals as goal

pub loop-e-init : goal.loop-e-init
loop-e-init c =
    let k = c.args.circuit in
    (c.requires.words, ran_none k.types.now k.wiring.counts.now k.wiring.places.now k.sets.now c.args.vars.now (numbered_step c.args.list.nets.now c.args.list.times.now), refl)

pub step-requires : goal.step-requires
step-requires c =
    let a = c.args in
    let l = c.loop-e in
    let e = c.step-net.ensures in
    let d = doable_at a.circuit.types.now a.circuit.wiring.counts.now (numbered_step a.list.nets.now a.list.times.now) a.list.total l.e c.step-net.result.0 c.step-net.result.1 c.requires.doable (omega arith) e.0 e.1 in
    record { gates = d.0; step_time = (d.1, l.invariant.0) }

pub loop-e-preserved : goal.loop-e-preserved
loop-e-preserved c =
    let a = c.args in
    let k = a.circuit in
    let l = c.loop-e in (
      rw c.step.ensures (step_words k.types.now k.wiring.counts.now k.wiring.places.now k.sets.now l.vars _),
      ran_more k.types.now k.wiring.counts.now k.wiring.places.now k.sets.now a.vars.now (numbered_step a.list.nets.now a.list.times.now) l.e l.vars _ c.step-net.result.0 c.step-net.result.1
          l.invariant.1 c.step-net.ensures.0 c.step-net.ensures.1 c.step.ensures,
      omega arith,
    )

pub returns : goal.returns
returns c =
    let a = c.args in
    let k = a.circuit in
    let l = c.loop-e in
    let e : l.e ≡ a.list.total = omega (arith, l.auto.e-end) in
    ap (λ n. record { words = l.vars; count = n }) l.invariant.2 ∙ l.invariant.1 ∙ ap (λ n. ran k.types.now k.wiring.counts.now k.wiring.places.now k.sets.now a.vars.now (steps_named a.list.nets.now a.list.times.now n)) e
