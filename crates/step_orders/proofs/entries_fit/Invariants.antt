use Prim.Native.Nat.{◌≤◌}
use lib.ListN.{length}
use Rattle.step_orders.proofs.Seen.{Seen}
use Rattle.step_orders.proofs.entries_fit.Given as goal

abbrev pub invariant-loop-entry : goal.invariant-loop-entry
invariant-loop-entry l = (l.entry-index ≤ length l.order) × Seen l.total l.order l.seen l.entry-index
