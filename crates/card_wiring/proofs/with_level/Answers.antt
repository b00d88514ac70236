-- `card_wiring::with_level` meets its contract. The loop's invariant: the order has the lower levels and, of level l, the nets so far. Assumes nothing.
use mathlib.Core.Path.{◌≡◌, sym, ap, ◌∙◌}
use mathlib.Core.List.{◌++◌}
use Prim.Native.Nat.{◌-◌}
use native.Mathlib.Omega.{arith}
use lib.Dec.{eqb}
use lib.ListN.{get_or}
use borrow.Author.Tests.{eq-eqb, ne_eqb, eqb-true}
use Rattle.card_wiring.specs.Inner.Wires.{row, order_of}
use Rattle.card_wiring.specs.Inner.Wired.{as_order, with_gate}
use Rattle.card_wiring.proofs.Orders.{row_more, order_more, order_room, ordered_more}
use Rattle.card_wiring.proofs.with_level.Goals as goal
use Rattle.card_wiring.proofs.with_level.Goals.{then-levels-g, else-levels-g}

-- there is room for a net of level l
pub push-requires : goal.push-requires
push-requires c =
    let l = c.loop-g in
    let a = c.args in
    let fits = order_room a.levels.now a.n a.l l.g c.requires.1 (omega arith) c.if-levels-g.true in
    (omega (arith, c.requires.0), omega (arith, c.requires.0, ap (λ o. o.gates) l.invariant))

pub loop-g-preserved : goal.loop-g-preserved
loop-g-preserved c =
    let l = c.loop-g in
    let a = c.args in
    let level = get_or a.levels.now l.g 0 in
    let xs = order_of a.levels.now a.n (a.l - 1) in
    let next : c.if-levels-g.order ≡ with_gate l.order (eqb level a.l) l.g =
    elim c.if-levels-g.branch [
      | then-levels-g w ↦ w.order-is ∙ w.push.ensures ∙ ap (λ b. with_gate l.order b l.g) (sym (eq-eqb level a.l w.if-levels-g.true))
      | else-levels-g w ↦ w.order-is ∙ ap (λ b. with_gate l.order b l.g) (sym (ne_eqb level a.l w.if-levels-g.false))
    ] in
    next
    ∙ ordered_more l.order (xs ++ row a.levels.now l.g a.l) (eqb level a.l) l.g l.invariant
    (λ e. let fits = order_room a.levels.now a.n a.l l.g c.requires.1 (omega arith) (eqb-true level a.l e) in omega (arith, c.requires.0, ap (λ o. o.gates) l.invariant))
    ∙ ap as_order (sym (row_more a.levels.now xs l.g a.l))

pub returns : goal.returns
returns c =
    let e : c.loop-g.g ≡ c.args.n = omega arith in
    rw e at c.loop-g.invariant ∙ ap as_order (order_more c.args.levels.now c.args.n c.args.l c.requires.1)
