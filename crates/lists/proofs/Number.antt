-- How many things there are of a kind: a list in which none stands twice is no longer than one that has all of its entries.
-- Assumes nothing.
use mathlib.Core.Path.{◌≡◌, refl, sym, ap, ◌∙◌}
use mathlib.Core.List.Memᴰ
use mathlib.Core.List.{List, [], ◌∷◌}
use mathlib.Core.Logic.{◌⊎◌, inl, inr}
use Prim.Native.Nat.{ℕ, suc, ◌≤◌, ◌<◌}
use native.Mathlib.Omega.{arith}
use lib.ListN.{length}
use Rattle.lists.specs.Entries.{◌∈◌, Distinct, Number, from}
use Rattle.lists.proofs.Joined.{in_from, length_from}

module _ {A : Type 0} where
  -- a list with an entry taken out is one shorter, and has every other entry
  without : (x : A) (ys : List A) → x ∈ ys → (zs : List A) × (length ys ≡ suc (length zs)) × ((y : A) → ¬ (y ≡ x) → y ∈ ys → y ∈ zs)
  without x ys (Memᴰ.head {x = z} {xs = zs} e) = (zs, refl, λ y ne m. keep y ne (Memᴰ.cases_cons m))
    where
      keep : (y : A) → ¬ (y ≡ x) → (y ≡ z) ⊎ (y ∈ zs) → y ∈ zs
      keep y ne (inl q) = absurd (ne (q ∙ sym e))
      keep y ne (inr m) = m
  without x ys (Memᴰ.tail {x = z} {xs = zs} m) = go (without x zs m)
    where
      go : (ws : List A) × (length zs ≡ suc (length ws)) × ((y : A) → ¬ (y ≡ x) → y ∈ zs → y ∈ ws)
          → (ws : List A) × (suc (length zs) ≡ suc (length ws)) × ((y : A) → ¬ (y ≡ x) → y ∈ z ∷ zs → y ∈ ws)
      go r = (z ∷ r.0, ap suc r.1, λ y ne n. two y ne (Memᴰ.cases_cons n))
        where
          two : (y : A) → ¬ (y ≡ x) → (y ≡ z) ⊎ (y ∈ zs) → y ∈ z ∷ r.0
          two y ne (inl e) = Memᴰ.head e
          two y ne (inr n) = Memᴰ.tail (r.2 y ne n)

  pub distinct_length : (xs ys : List A) → Distinct xs → ((x : A) → x ∈ xs → x ∈ ys) → length xs ≤ length ys
  distinct_length [] ys d h = omega arith
  distinct_length (x ∷ xs) ys d h =
      let w = without x ys (h x (Memᴰ.head refl)) in
      let l = distinct_length xs w.0 d.1 (λ y m. w.2 y (λ e. d.0 y m (sym e)) (h y (Memᴰ.tail m))) in
      omega (arith, w.1)

  -- there is one number of things that have P
  pub number_unique : (P : A → Type 0) (j k : ℕ) → Number P j → Number P k → j ≡ k
  number_unique P j k a b =
      let l = distinct_length a.entries b.entries a.once (λ x m. b.all x (a.only x m)) in
      let r = distinct_length b.entries a.entries b.once (λ x m. a.all x (b.only x m)) in
      omega (arith, a.size, b.size)

-- numbers below n, none twice, are at most n
pub distinct_below : (n : ℕ) (xs : List ℕ) → Distinct xs → ((x : ℕ) → x ∈ xs → x < n) → length xs ≤ n
distinct_below n xs d h =
    let l = distinct_length xs (from 0 n) d (λ x m. in_from 0 n x (omega arith) (omega (arith, h x m))) in
    omega (arith, length_from 0 n)
