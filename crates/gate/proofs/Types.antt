-- The table read out: what each gate type gives, over any number of pins. Assumes nothing.
use mathlib.Core.Path.{◌≡◌, refl, ap, ◌∙◌}
use mathlib.Core.Bool.{Bool, true, false, not, cond, beq}
use mathlib.Core.List.{List, [], ◌∷◌}
use Prim.Native.Nat.{◌+◌, ◌%◌}
use native.Mathlib.Omega.{arith}
use Rattle.lists.specs.Entries.{some, every, sum}
use Rattle.word.specs.Word.{differ, val}
use Rattle.gate.specs.Gate.{controls, inverts, controlled, odd, gate}
use Rattle.gate.proofs.Pins.{differ_false, by_zero, by_one}

differ_true : (a : Bool) → differ a true ≡ not a
differ_true true = refl
differ_true false = refl

pub buf_is : (p : Bool) → gate 0 (p ∷ []) ≡ p
unfolding gate inverts
buf_is p = differ_false p

pub not_is : (p : Bool) → gate 1 (p ∷ []) ≡ not p
unfolding gate inverts
not_is p = differ_true p

pub and_is : (ps : List Bool) → gate 2 ps ≡ every (λ p. p) ps
unfolding gate controls inverts controlled
and_is ps = differ_false (cond (some (λ p. beq p false) ps) false true) ∙ by_zero ps

pub nand_is : (ps : List Bool) → gate 3 ps ≡ not (every (λ p. p) ps)
unfolding gate controls inverts controlled
nand_is ps = differ_true (cond (some (λ p. beq p false) ps) false true) ∙ ap not (by_zero ps)

pub or_is : (ps : List Bool) → gate 4 ps ≡ some (λ p. p) ps
unfolding gate controls inverts controlled
or_is ps = differ_false (cond (some (λ p. beq p true) ps) true false) ∙ by_one ps

pub nor_is : (ps : List Bool) → gate 5 ps ≡ not (some (λ p. p) ps)
unfolding gate controls inverts controlled
nor_is ps = differ_true (cond (some (λ p. beq p true) ps) true false) ∙ ap not (by_one ps)

pub xor_is : (ps : List Bool) → gate 6 ps ≡ odd ps
unfolding gate inverts
xor_is ps = differ_false (odd ps)

pub xnor_is : (ps : List Bool) → gate 7 ps ≡ not (odd ps)
unfolding gate inverts
xnor_is ps = differ_true (odd ps)

-- "an odd number of pins is 1"
pub odd_counts : (ps : List Bool) → val (odd ps) ≡ sum val ps % 2
odd_counts [] = refl
odd_counts (p ∷ ps) = go p (odd ps) (odd_counts ps)
  where
    go : (p o : Bool) → val o ≡ sum val ps % 2 → val (differ p o) ≡ (val p + sum val ps) % 2
    go true true e = omega arith
    go true false e = omega arith
    go false o e = omega arith
