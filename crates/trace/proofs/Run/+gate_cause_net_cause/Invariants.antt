-- The measures of `trace::net_cause` and `trace::gate_cause` are twice the time, and for the net one more: the net asks its gate at the same time, and
-- the gate a net one unit earlier.
use Prim.Native.Nat.{◌+◌}
use Rattle.trace.proofs.Run.+gate_cause_net_cause.Given as goal

abbrev pub decreases-gate_cause : goal.decreases-gate_cause
decreases-gate_cause l = l.t + l.t

abbrev pub decreases-net_cause : goal.decreases-net_cause
decreases-net_cause l = l.t + l.t + 1
