-- `step_vars::history_from` meets its contract. The loop's invariant: ahead of turn i the filling is 2 ^ i wide. Assumes nothing.
use native.Mathlib.Omega.{arith}
use Prim.Native.Nat.{◌^◌}
use Rattle.step_vars.proofs.Histories.{turn_width, turn_next, turn_last, wide_one, wider, wide_all}
use Rattle.step_vars.proofs.history_from.Goals as goal

pub loop-s-init : goal.loop-s-init
loop-s-init c = let a = c.args in wide_one a.set a.vars (omega arith) (omega arith)

pub loop-s-preserved : goal.loop-s-preserved
loop-s-preserved c =
    let a = c.args in
    let l = c.loop-s in
    rw (turn_width l.s-index c.loop-s-test.true, turn_next l.s-index) (wider a.set a.vars l.known l.v (2 ^ l.s-index) l.invariant)

pub returns : goal.returns
returns c =
    let a = c.args in
    let l = c.loop-s in
    wide_all a.set a.vars l.known l.v (2 ^ l.s-index) (turn_last l.s-index (omega arith)) l.invariant
