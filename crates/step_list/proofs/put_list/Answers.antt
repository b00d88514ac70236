-- `step_list::put_list` meets its contract. The loop's invariant: the steps of the first i gates stand in the list. Assumes nothing.
use mathlib.Core.Path.{◌≡◌, sym, ap, ◌∙◌}
use mathlib.Core.List.{◌++◌}
use native.Mathlib.Omega.{arith}
use lib.ListN.{get_or}
use Rattle.step_list.specs.Inner.Listing.{times_in, steps_in, gates_in}
use Rattle.step_list.proofs.Lists.{hold_none, hold_same, steps_none, steps_more, steps_room}
use Rattle.step_list.proofs.put_list.Goals as goal

pub loop-i-init : goal.loop-i-init
loop-i-init c =
    let a = c.args in
    hold_same (sym (steps_none a.sets.now a.order.now)) (hold_none a.nets.now a.times.now)

-- the gate that is read is a net
pub offset_bounds-sets-from : goal.offset_bounds-sets-from
offset_bounds-sets-from c = omega (arith, c.from.ensures, c.requires.gates_bound.1 c.loop-i.i)

pub bounds-sets-from : goal.bounds-sets-from
bounds-sets-from c = omega (arith, c.from.ensures, c.requires.gates_bound.1 c.loop-i.i)

pub put_net-next-requires : goal.put_net-next-requires
put_net-next-requires c =
    let l = c.loop-i in
    rw c.from.ensures (omega (arith, l.invariant.size, c.requires.gates_bound.2, steps_room c.args.sets.now c.args.order.now l.i c.args.gates (omega arith)))

pub loop-i-preserved : goal.loop-i-preserved
loop-i-preserved c =
    let l = c.loop-i in
    let a = c.args in
    let g = get_or a.order.now l.i 0 in
    hold_same (ap (λ k. steps_in a.sets.now (gates_in a.order.now l.i) ++ times_in (get_or a.sets.now k 0) g 63) c.from.ensures ∙ steps_more a.sets.now a.order.now l.i)
    (c.put_net-next.ensures (steps_in a.sets.now (gates_in a.order.now l.i)) a.nets.now a.times.now c.requires.nets_len.0 c.requires.nets_len.1 l.invariant)

pub returns : goal.returns
returns c =
    let e : c.loop-i.i ≡ c.args.gates = omega arith in
    hold_same (ap (λ k. steps_in c.args.sets.now (gates_in c.args.order.now k)) e) c.loop-i.invariant
