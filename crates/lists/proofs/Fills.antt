-- A list that is filled place by place, where a place may also be left as it is. Assumes nothing.
use mathlib.Core.Path.{◌≡◌, refl, ap, ◌∙◌}
use mathlib.Core.Bool.{Bool, true, false, cond}
use mathlib.Core.List.{List}
use Prim.Native.Nat.{ℕ, ◌+◌, ◌≤◌, ◌<◌}
use lib.Dec.{ltb}
use lib.ListN.{length, get_or, set, replicate}
use borrow.Author.Tests.{ltb-false}
use Rattle.lists.specs.Listed.{listed, upto}
use Rattle.lists.proofs.Listed.{listed_same, listed_self, listed_ext, upto_none, upto_more}

module _ {A : Type 0} (f g : ℕ → A) (n : ℕ) where
  pub put_more : (i : ℕ) (xs : List A) (v : A) → i < n → xs ≡ listed (upto f g i) n → v ≡ f i → set xs i v ≡ listed (upto f g (i + 1)) n
  put_more i xs v l e h = rw (e, h) (upto_more f g n i l)

  -- the places from i on have theirs already
  pub put_rest : (i : ℕ) (xs : List A) → xs ≡ listed (upto f g i) n → ((j : ℕ) → i ≤ j → j < n → g j ≡ f j) → xs ≡ listed f n
  put_rest i xs e h = e ∙ listed_ext (upto f g i) f n same
    where
      same : (j : ℕ) → j < n → upto f g i j ≡ f j
      same j b = go (ltb j i) refl
        where
          go : (x : Bool) → ltb j i ≡ x → cond x (f j) (g j) ≡ f j
          go true p = refl
          go false p = h j (ltb-false j i p) b

module _ {A : Type 0} (f : ℕ → A) (d : A) (n : ℕ) where
  pub put_none : (xs : List A) → length xs ≡ n → xs ≡ listed (upto f (λ i. get_or xs i d) 0) n
  put_none xs e = listed_self xs d ∙ ap (listed (λ i. get_or xs i d)) e ∙ upto_none f (λ i. get_or xs i d) n

  pub fill_none : replicate n d ≡ listed (upto f (λ i. d) 0) n
  fill_none = listed_same d n ∙ upto_none f (λ i. d) n

  pub fill_more : (i : ℕ) (xs : List A) (v : A) → i < n → xs ≡ listed (upto f (λ j. d) i) n → v ≡ f i → set xs i v ≡ listed (upto f (λ j. d) (i + 1)) n
  fill_more = put_more f (λ j. d) n
