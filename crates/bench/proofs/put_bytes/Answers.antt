-- `bench::put_bytes` meets its contract. The loop's invariant: the first e bytes are those of the first e steps, the rest is as it was.
-- Assumes nothing.
use mathlib.Core.Path.{◌≡◌, ap, ◌∙◌}
use Prim.Native.Nat.{◌<◌}
use native.Mathlib.Omega.{arith}
use borrow.Author.Rules.{rules}
use Rattle.lists.specs.Filled.{filled}
use Rattle.lists.proofs.Rooms.{filled_none, filled_turn, filled_keeps}
use Rattle.bench.specs.Inner.Taken.{byte_in}
use Rattle.bench.proofs.Bytes.{byte_at}
use Rattle.bench.proofs.put_bytes.Goals as goal
use Rattle.bench.proofs.put_bytes.Goals.{After-step-g}

-- a step's net is a place of the arrays
placed : (c : After-step-g) → c.step-g.result.0 < 256
placed c =
    let e = c.step-g.ensures.0 in
    omega (arith, c.requires.1 c.loop-e.e (omega arith))

pub loop-e-init : goal.loop-e-init
loop-e-init c = filled_none _ _

pub offset_bounds-vars-g : goal.offset_bounds-vars-g
offset_bounds-vars-g c = let h = placed (goal.at.offset_bounds-vars-g c).After-step-g in search rules

pub bounds-vars-g : goal.bounds-vars-g
bounds-vars-g c = placed (goal.at.bounds-vars-g c).After-step-g

pub bounds-room-e : goal.bounds-room-e
bounds-room-e c =
    let l = c.loop-e in
    let a = c.args in
    omega (arith, filled_keeps (byte_in a.vars.now a.list.nets.now a.list.times.now a.done.now) a.room.now l.e l.room l.invariant)

pub loop-e-preserved : goal.loop-e-preserved
loop-e-preserved c =
    let l = c.loop-e in
    let a = c.args in
    let byte = byte_at a.vars.now a.list.nets.now a.list.times.now a.done.now l.e _ _ _
    c.step-g.ensures.0 c.step-g.ensures.1 c.step_byte.ensures in
    filled_turn _ a.room.now l.e c.step_byte.result l.room l.invariant byte (omega arith)

pub shape_of-room : goal.shape_of-room
shape_of-room c = filled_keeps _ c.args.room.now c.loop-e.e c.loop-e.room c.loop-e.invariant

pub returns : goal.returns
returns c =
    let a = c.args in
    let e : c.loop-e.e ≡ a.list.total = omega (arith, c.loop-e.auto.e-end) in
    c.loop-e.invariant ∙ ap (λ k. filled (byte_in a.vars.now a.list.nets.now a.list.times.now a.done.now) k a.room.now) e
