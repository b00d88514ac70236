-- `inputs::input_nets` meets its contract. The loop's invariant: j inputs stand ahead of net n, and they are in their places. Assumes nothing.
use mathlib.Core.Path.{◌≡◌, sym, ap, ◌∙◌}
use Prim.Native.Nat.{ℕ, ◌+◌, ◌<◌}
use native.Mathlib.Omega.{arith}
use lib.ListN.{get_or}
use Rattle.inputs.proofs.Vectors.{rank_none, rank_input, rank_other, rank_le}
use Rattle.inputs.proofs.Nets.{nets_none, nets_input, nets_other}
use Rattle.inputs.proofs.input_nets.Goals as goal
use Rattle.inputs.proofs.input_nets.Goals.{then-kinds-from-eq1, else-kinds-from-eq1, Then-kinds-from-eq1}

-- there are not more inputs ahead of a net than nets
place_there : (c : Then-kinds-from-eq1) → c.loop-n.j < 256
place_there c = omega (arith, c.loop-n.invariant.0, rank_le c.args.kinds.now c.loop-n.n)

pub loop-n-init : goal.loop-n-init
loop-n-init c = (sym (rank_none _), nets_none _)

pub offset_bounds-nets-j : goal.offset_bounds-nets-j
offset_bounds-nets-j c = let b = place_there (goal.at.offset_bounds-nets-j c).Then-kinds-from-eq1 in omega arith

pub bounds-nets-j : goal.bounds-nets-j
bounds-nets-j c = place_there (goal.at.bounds-nets-j c).Then-kinds-from-eq1

pub overflow_add-j : goal.overflow_add-j
overflow_add-j c = let b = place_there (goal.at.overflow_add-j c).Then-kinds-from-eq1 in omega arith

pub loop-n-preserved : goal.loop-n-preserved
loop-n-preserved c =
    let kinds = c.args.kinds.now in
    let l = c.loop-n in
    let e : get_or kinds l.n 0 ≡ get_or kinds c.from.result 0 = ap (λ k. get_or kinds k 0) (sym c.from.ensures) in (
      elim c.if-kinds-from-eq1.branch [
        | then-kinds-from-eq1 w ↦ w.j-is ∙ ap (λ (k : ℕ). k + 1) l.invariant.0 ∙ rank_input kinds l.n (e ∙ w.if-kinds-from-eq1.true)
        | else-kinds-from-eq1 w ↦ w.j-is ∙ l.invariant.0 ∙ rank_other kinds l.n (λ q. w.if-kinds-from-eq1.false (sym e ∙ q))
      ],
      elim c.if-kinds-from-eq1.branch [
        | then-kinds-from-eq1 w ↦ w.nets-is ∙ nets_input kinds l.n l.j l.nets (e ∙ w.if-kinds-from-eq1.true) l.invariant.0 l.invariant.1
        | else-kinds-from-eq1 w ↦ w.nets-is ∙ nets_other kinds l.n l.nets (λ q. w.if-kinds-from-eq1.false (sym e ∙ q)) l.invariant.1
      ],
    )
