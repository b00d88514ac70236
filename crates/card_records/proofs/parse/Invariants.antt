use Prim.Native.Nat.{◌-◌}
use Rattle.card_records.proofs.Walk.{Walk}
use Rattle.card_records.proofs.parse.Given as goal

abbrev pub invariant-loop-next : goal.invariant-loop-next
invariant-loop-next l = Walk l.s l.card.kinds l.card.types l.card.counts l.card.places l.card.nets l.at

abbrev pub decreases-loop-next : goal.decreases-loop-next
decreases-loop-next l = 256 - l.card.nets
