-- `step_list::put_net` meets its contract. The loop's invariant: t is the next element, or 64, what is left of the set begins there, and the steps at times
-- below t stand in the list. The measure is what is left of 64. Assumes nothing.
use mathlib.Core.Path.{◌≡◌, sym, ap, ◌∙◌}
use mathlib.Core.Bool.{◌&&◌}
use mathlib.Core.List.{[], ◌∷◌}
use Prim.Native.Nat.{ℕ, ◌+◌, ◌-◌, ◌<◌}
use native.Mathlib.Omega.{arith}
use lib.Dec.{leb, ltb}
use lib.ListN.{length, length-append}
use Rattle.word.specs.Word.{bit}
use Rattle.word.proofs.Sets.{First, next_first, from_first, above_from}
use Rattle.step_list.specs.Inner.Listing.{times_in}
use Rattle.step_list.proofs.Lists.{holding_none, holding_more, holding_same, times_none, times_more, times_first, times_room}
use Rattle.step_list.proofs.put_net.Goals as goal
use Rattle.step_list.proofs.put_net.Goals.{After-least-t-in-loop-t, In-loop-t}

pub loop-t-init : goal.loop-t-init
loop-t-init c =
    let a = c.args in
    let from = c.not_below-left.ensures in
    let f = next_first (bit a.set) _ 1 64 _ (omega arith) from c.least-t.ensures in
    let e = sym (times_none a.set a.g) ∙ times_first a.set a.g 1 _ (omega arith) f in
    (f.after, f.within, f.in_set, omega (arith, ap length e), holding_same e (holding_none _ _ a.at), from_first _ _ 1 64 _ f from, c.least-t.ensures)

-- there is room for one step more
room : (c : In-loop-t) → c.loop-t.next < 4096
room c =
    let a = c.args in
    let l = c.loop-t in
    omega (arith, c.requires, times_room a.set a.g l.t l.invariant.0 (omega arith) (l.invariant.2 (omega arith)))

pub put_step-requires : goal.put_step-requires
put_step-requires c = (omega arith, room (goal.at.put_step-requires c).In-loop-t)

pub overflow_add-next : goal.overflow_add-next
overflow_add-next c = omega (arith, room (goal.at.overflow_add-next c).In-loop-t)

-- what is left then, and its first element
later : (c : After-least-t-in-loop-t) → (u : ℕ) → bit c.without_least-left.result.word u ≡ leb (c.loop-t.t + 1) u && bit c.args.set u
later c =
    let l = c.loop-t in
    above_from (bit c.args.set) (bit l.left.word) _ l.t l.invariant.5
    (λ u. c.without_least-left.ensures u ∙ ap (λ x. ltb x u && bit l.left.word u) (sym l.invariant.6))

next : (c : After-least-t-in-loop-t) → First (bit c.args.set) (c.loop-t.t + 1) 64 c.least-t-in-loop-t.result
next c =
    next_first (bit c.args.set) _ (c.loop-t.t + 1) 64 _ (omega arith) ((let it : (u : ℕ) → bit c.without_least-left.result.word u ≡ leb (c.loop-t.t + 1) u && bit c.args.set u = let l = c.loop-t in
    above_from (bit c.args.set) (bit l.left.word) _ l.t l.invariant.5
    (λ u. c.without_least-left.ensures u ∙ ap (λ x. ltb x u && bit l.left.word u) (sym l.invariant.6)) in it)) c.least-t-in-loop-t.ensures

pub loop-t-smaller : goal.loop-t-smaller
loop-t-smaller c = omega (arith, (next (goal.at.loop-t-smaller c).After-least-t-in-loop-t).after)

pub loop-t-preserved : goal.loop-t-preserved
loop-t-preserved c =
    let a = c.args in
    let l = c.loop-t in
    let f = next (goal.at.loop-t-preserved c).After-least-t-in-loop-t in
    let x : l.t + 1 - 1 ≡ l.t = omega arith in
    let e = times_more a.set a.g l.t l.invariant.0 (l.invariant.2 (omega arith)) ∙ sym (ap (times_in a.set a.g) x) ∙ times_first a.set a.g (l.t + 1) _ (omega arith) f in (
      omega (arith, f.after),
      f.within,
      f.in_set,
      omega (arith, ap length e, length-append (times_in a.set a.g (l.t - 1)) (record { net = a.g; time = l.t } ∷ [])),
      holding_same e (holding_more (times_in a.set a.g (l.t - 1)) (record { net = a.g; time = l.t } ∷ []) l.invariant.4 c.put_step.ensures),
      from_first _ _ (l.t + 1) 64 _ f (later (goal.at.loop-t-preserved c).After-least-t-in-loop-t),
      c.least-t-in-loop-t.ensures,
    )

pub returns : goal.returns
returns c =
    let l = c.loop-t in
    let a = c.args in
    let e : l.t - 1 ≡ 63 = omega arith in
    holding_same (ap (times_in a.set a.g) e) l.invariant.4
