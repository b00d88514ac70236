use Rattle.step_list.specs.Inner.Listing.{steps_in, gates_in, Holds}
use Rattle.step_list.proofs.put_list.Given as goal

abbrev pub invariant-loop-i : goal.invariant-loop-i
invariant-loop-i l = Holds (steps_in l.sets (gates_in l.order l.i)) l.initial.nets l.initial.times l.nets l.times l.next
