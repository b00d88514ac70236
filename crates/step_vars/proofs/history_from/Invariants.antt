use Prim.Native.Nat.{◌^◌}
use Rattle.step_vars.proofs.Histories.{Wide}
use Rattle.step_vars.proofs.history_from.Given as goal

abbrev pub invariant-loop-s : goal.invariant-loop-s
invariant-loop-s l = Wide l.set l.vars l.known l.v (2 ^ l.s-index)
