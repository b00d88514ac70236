-- The laws of parts: they are what std's `split` yields, none is longer than the text, and there is one more than the text has bytes at most. Assumes nothing.
use mathlib.Core.Path.{◌≡◌, refl, ap, ◌∙◌}
use mathlib.Core.Bool.{Bool, true, false, cond}
use mathlib.Core.List.{List, [], ◌∷◌}
use Prim.Native.Nat.{ℕ, zero, suc, ◌+◌, ◌≤◌}
use native.Mathlib.Omega.{arith}
use lib.Dec.{eqb, leb}
use lib.ListN.{length, get_or, drop}
use borrow.Author.Tests.{le-leb}
use Rattle.std.specs.Prelude.{Option, Some, None, unwrap_or}
use Rattle.std.specs.Option.{option_map}
use Rattle.std.specs.Borrow.{Bor}
use Rattle.std.specs.List.{slice_get, slice_split, onto_first}
use Rattle.std.proofs.lemmas.Option.{unwrap_or-slice_get}
use Rattle.drill_words.specs.Parts.{first_part, later_parts, parts}

-- what `nth` answers, and an empty text where there is none
pub part_is : (r : Option (Bor (List ℕ))) (none : Bor (List ℕ)) (ps : List (List ℕ)) (k : ℕ) → option_map (λ x. x.now) r ≡ slice_get ps k → none.now ≡ []
    → (unwrap_or r none).now ≡ get_or ps k []
part_is None none ps k e n = n ∙ ap (λ o. unwrap_or o []) e ∙ unwrap_or-slice_get ps k []
part_is (Some x) none ps k e n = ap (λ o. unwrap_or o []) e ∙ unwrap_or-slice_get ps k []

module _ (sep : ℕ) where
  pub parts_split : (t : List ℕ) → slice_split (λ b. eqb b sep) t ≡ parts sep t
  unfolding first_part later_parts
  parts_split [] = refl
  parts_split (b ∷ bs) = rw (parts_split bs) (go (eqb b sep))
    where
      go : (x : Bool)
          → cond x ([] ∷ parts sep bs) (onto_first b (parts sep bs))
          ≡ cond x [] (b ∷ first_part sep bs) ∷ cond x (first_part sep bs ∷ later_parts sep bs) (later_parts sep bs)
      go true = refl
      go false = refl

  first_short : (t : List ℕ) → length (first_part sep t) ≤ length t
  unfolding first_part
  first_short [] = omega arith
  first_short (b ∷ bs) = go (eqb b sep) (first_short bs)
    where
      go : (x : Bool) → length (first_part sep bs) ≤ length bs → length (cond x [] (b ∷ first_part sep bs)) ≤ suc (length bs)
      go true h = omega arith
      go false h = omega arith

  later_short : (t : List ℕ) (k : ℕ) → length (get_or (later_parts sep t) k []) ≤ length t
  unfolding later_parts
  later_short [] k = omega arith
  later_short (b ∷ bs) k = go (eqb b sep) k (later_short bs)
    where
      go : (x : Bool) (k : ℕ) → ((j : ℕ) → length (get_or (later_parts sep bs) j []) ≤ length bs)
          → length (get_or (cond x (first_part sep bs ∷ later_parts sep bs) (later_parts sep bs)) k []) ≤ suc (length bs)
      go true zero h = omega (arith, first_short bs)
      go true (suc k) h = omega (arith, h k)
      go false k h = omega (arith, h k)

  pub part_short : (t : List ℕ) (k : ℕ) → length (get_or (parts sep t) k []) ≤ length t
  part_short t zero = first_short t
  part_short t (suc k) = later_short t k

  later_few : (t : List ℕ) → length (later_parts sep t) ≤ length t
  unfolding later_parts
  later_few [] = omega arith
  later_few (b ∷ bs) = go (eqb b sep) (later_few bs)
    where
      go : (x : Bool) → length (later_parts sep bs) ≤ length bs → length (cond x (first_part sep bs ∷ later_parts sep bs) (later_parts sep bs)) ≤ suc (length bs)
      go true h = omega arith
      go false h = omega arith

  pub parts_few : (t : List ℕ) → length (parts sep t) ≤ length t + 1
  parts_few t = omega (arith, later_few t)

-- the parts from a place on, and none from one past the text's end: from its start they are all of them
pub parts_from : ℕ → List ℕ → ℕ → List (List ℕ)
parts_from sep text from = cond (leb from (length text)) (parts sep (drop from text)) []

pub from_start : (sep : ℕ) (t : List ℕ) → parts_from sep t 0 ≡ parts sep t
unfolding parts_from
from_start sep t = rw (le-leb 0 (length t) (omega arith))
