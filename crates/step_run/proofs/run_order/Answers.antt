-- `step_run::run_order` meets its contract. The loop's invariant: the variables and the count are what the first steps of the order leave. Assumes nothing.
use mathlib.Core.Path.{◌≡◌, refl, ap, ◌∙◌}
use Prim.Native.Nat.{ℕ}
use native.Mathlib.Omega.{arith}
use lib.ListN.{length, get_or}
use Rattle.rule.specs.Steps.{Step}
use Rattle.step_vars.proofs.Stores.{step_words}
use Rattle.step_list.specs.Inner.Listing.{numbered_step}
use Rattle.step_run.specs.Runs.{ran}
use Rattle.step_run.specs.Inner.Runs.{ordered_steps}
use Rattle.step_run.proofs.Runs.{doable_at, ran_none, ran_more}
use Rattle.step_run.proofs.run_order.Goals as goal
use Rattle.step_run.proofs.run_order.Goals.{After-step-net, Start}

-- step i of the order
abbrev entry : Start → ℕ → Step
entry c i = numbered_step c.args.list.nets.now c.args.list.times.now (get_or c.args.order.now i 0)

net_is : (c : After-step-net) → c.step-net.result.0 ≡ get_or c.args.list.nets.now (get_or c.args.order.now c.loop-entry.entry-index 0) 0
net_is c = c.step-net.ensures.0 ∙ ap (λ e. get_or c.args.list.nets.now e 0) c.from.ensures

time_is : (c : After-step-net) → c.step-net.result.1 ≡ get_or c.args.list.times.now (get_or c.args.order.now c.loop-entry.entry-index 0) 0
time_is c = c.step-net.ensures.1 ∙ ap (λ e. get_or c.args.list.times.now e 0) c.from.ensures

pub loop-entry-init : goal.loop-entry-init
loop-entry-init c =
    let k = c.args.circuit in
    (c.requires.order.1, ran_none k.types.now k.wiring.counts.now k.wiring.places.now k.sets.now c.args.vars.now (entry (goal.at.loop-entry-init c).Start), refl)

pub step-net-requires : goal.step-net-requires
step-net-requires c = omega (arith, c.from.ensures, c.requires.order.0 c.loop-entry.entry-index c.loop-entry-test.true)

pub step-requires : goal.step-requires
step-requires c =
    let a = c.args in
    let l = c.loop-entry in
    let at = goal.at.step-requires c in
    let d = doable_at a.circuit.types.now a.circuit.wiring.counts.now (entry at.Start) (length a.order.now) l.entry-index c.step-net.result.0 c.step-net.result.1 c.requires.doable (omega arith) (net_is at.After-step-net) (time_is at.After-step-net) in
    record { gates = d.0; step_time = (d.1, l.invariant.0) }

pub loop-entry-preserved : goal.loop-entry-preserved
loop-entry-preserved c =
    let a = c.args in
    let k = a.circuit in
    let l = c.loop-entry in
    let at = goal.at.loop-entry-preserved c in (
      rw c.step.ensures (step_words k.types.now k.wiring.counts.now k.wiring.places.now k.sets.now l.vars _),
      ran_more k.types.now k.wiring.counts.now k.wiring.places.now k.sets.now a.vars.now (entry at.Start) l.entry-index l.vars _ c.step-net.result.0 c.step-net.result.1
          l.invariant.1 (net_is at.After-step-net) (time_is at.After-step-net) c.step.ensures,
      omega arith,
    )

pub returns : goal.returns
returns c =
    let a = c.args in
    let k = a.circuit in
    let l = c.loop-entry in
    let e : l.entry-index ≡ length a.order.now = omega arith in
    ap (λ n. record { words = l.vars; count = n }) l.invariant.2 ∙ l.invariant.1 ∙ ap (λ n. ran k.types.now k.wiring.counts.now k.wiring.places.now k.sets.now a.vars.now (ordered_steps a.list.nets.now a.list.times.now a.order.now n)) e
