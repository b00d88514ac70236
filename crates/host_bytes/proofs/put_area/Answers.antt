-- `host_bytes::put_area` meets its contract. The loop's invariant: the area is written up to place i. Assumes nothing.
use mathlib.Core.Path.{◌≡◌, ap, ap₂, ◌∙◌}
use native.Mathlib.Omega.{arith}
use lib.ListN.{set}
use Rattle.lists.specs.Places.{area}
use Rattle.lists.proofs.Places.{area_none, area_more}
use Rattle.host_bytes.proofs.put_area.Goals as goal

pub loop-i-init : goal.loop-i-init
loop-i-init c = let a = c.args in area_none a.b.now a.at a.v.now

pub loop-i-preserved : goal.loop-i-preserved
loop-i-preserved c =
    let l = c.loop-i in
    let a = c.args in
    ap₂ (λ x y. set x l.i y) l.invariant c.byte_at.ensures ∙ area_more a.b.now a.at l.i a.v.now (omega (arith, l.auto.i)) (omega (arith, c.requires.1, c.loop-i-test.true))

pub returns : goal.returns
returns c =
    let l = c.loop-i in
    let a = c.args in
    let e : l.i ≡ a.to = omega (arith, l.auto.i-end, c.loop-i-test.false) in
    l.invariant ∙ ap (λ k. area a.b.now a.at k a.v.now) e
