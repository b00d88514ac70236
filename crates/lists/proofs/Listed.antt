-- The laws of `listed`: its places, that a list is known by them, and a list that is filled place by place. Assumes nothing.
use mathlib.Core.Path.{◌≡◌, refl, sym, ap, ap₂, ◌∙◌}
use mathlib.Core.Bool.{Bool, true, false, cond}
use mathlib.Core.List.{List, [], ◌∷◌, ◌++◌, map}
use Prim.Native.Nat.{ℕ, zero, suc, ◌+◌, ◌≤◌, ◌<◌}
use native.Mathlib.Nat.{zero-add, add-zero}
use native.Mathlib.Numerals.{add-one}
use native.Mathlib.Omega.{arith}
use native.Mathlib.Decide.{ℕ_discrete, dec_lt}
use lib.Dec.{ltb}
use lib.ListN.{length, get_or, set, replicate, length-set, length-replicate, get_or-replicate, get_or-eq_default}
use lib.Seq.{ext_get_or, get_or-set_same, get_or-set_other}
use borrow.Author.Tests.{lt-ltb, le-ltb, ltb-true, ltb-false}
use Rattle.lists.specs.Entries.{◌∈◌, from}
use Rattle.lists.specs.Listed.{listed_from, listed, upto}
use Rattle.lists.proofs.Tests.{in_map, out_map}
use Rattle.lists.proofs.Joined.{in_from, out_from}

module _ {A : Type 0} where
  -- its places

  length_from : (f : ℕ → A) (a n : ℕ) → length (listed_from f a n) ≡ n
  unfolding listed_from
  length_from f a zero = refl
  length_from f a (suc n) = ap suc (length_from f (suc a) n)

  pub length_listed : (f : ℕ → A) (n : ℕ) → length (listed f n) ≡ n
  unfolding listed
  length_listed f n = length_from f 0 n

  at_from : (f : ℕ → A) (a n i : ℕ) (d : A) → i < n → get_or (listed_from f a n) i d ≡ f (a + i)
  unfolding listed_from
  at_from f a zero i d l = absurd (omega arith)
  at_from f a (suc n) zero d l = ap f (sym (add-zero a))
  at_from f a (suc n) (suc i) d l = at_from f (suc a) n i d (omega arith) ∙ let x : suc a + i ≡ a + suc i = omega arith in ap f x

  pub listed_at : (f : ℕ → A) (n i : ℕ) (d : A) → i < n → get_or (listed f n) i d ≡ f i
  unfolding listed
  listed_at f n i d l = at_from f 0 n i d l ∙ ap f (zero-add i)

  pub listed_past : (f : ℕ → A) (n i : ℕ) (d : A) → n ≤ i → get_or (listed f n) i d ≡ d
  listed_past f n i d l = let h : length (listed f n) ≤ i = omega (arith, length_listed f n) in get_or-eq_default (listed f n) d h

  -- what holds of f's value and of the default holds of what is read
  pub listed_all : (P : A → Type 0) (f : ℕ → A) (n i : ℕ) (d : A) → P (f i) → P d → P (get_or (listed f n) i d)
  listed_all P f n i d a b = go (dec_lt i n)
    where
      go : Dec (i < n) → P (get_or (listed f n) i d)
      go (yes l) = rw (listed_at f n i d l) a
      go (no l) = rw (listed_past f n i d (omega arith)) b

  -- what holds of every entry and of one that is put in holds of every entry afterwards
  pub set_all : (P : A → Type 0) (xs : List A) (i : ℕ) (x d : A) → P x → ((n : ℕ) → P (get_or xs n d)) → (n : ℕ) → P (get_or (set xs i x) n d)
  set_all P [] i x d new old n = old n
  set_all P (y ∷ xs) zero x d new old zero = new
  set_all P (y ∷ xs) zero x d new old (suc n) = old (suc n)
  set_all P (y ∷ xs) (suc i) x d new old zero = old zero
  set_all P (y ∷ xs) (suc i) x d new old (suc n) = set_all P xs i x d new (λ m. old (suc m)) n

  -- what stands in it

  as_map : (f : ℕ → A) (a n : ℕ) → map f (from a n) ≡ listed_from f a n
  unfolding listed_from
  as_map f a zero = refl
  as_map f a (suc n) = ap (λ l. f a ∷ l) (as_map f (suc a) n)

  pub in_listed : (f : ℕ → A) (n i : ℕ) → i < n → f i ∈ listed f n
  unfolding listed
  in_listed f n i l = rw (as_map f 0 n) at (in_map f (from 0 n) i (in_from 0 n i (omega arith) (omega arith)))

  pub out_listed : (f : ℕ → A) (n : ℕ) (x : A) → x ∈ listed f n → (i : ℕ) × (i < n) × (x ≡ f i)
  unfolding listed
  out_listed f n x m =
      let r = out_map f (from 0 n) x (rw (as_map f 0 n) m) in
      (r.0, omega (arith, (out_from 0 n r.0 r.1).1), r.2)

  -- a list is known by its places

  pub is_listed : (f : ℕ → A) (n : ℕ) (d : A) (xs : List A) → length xs ≡ n → ((i : ℕ) → i < n → get_or xs i d ≡ f i) → xs ≡ listed f n
  is_listed f n d xs l h =
      ext_get_or d xs (listed f n) (l ∙ sym (length_listed f n)) (λ i b. let b' : i < n = omega arith in h i b' ∙ sym (listed_at f n i d b'))

  from_ext : (f g : ℕ → A) (a n : ℕ) → ((i : ℕ) → a ≤ i → i < a + n → f i ≡ g i) → listed_from f a n ≡ listed_from g a n
  unfolding listed_from
  from_ext f g a zero h = refl
  from_ext f g a (suc n) h = ap₂ ◌∷◌ (h a (omega arith) (omega arith)) (from_ext f g (suc a) n (λ i l b. h i (omega arith) (omega arith)))

  pub listed_ext : (f g : ℕ → A) (n : ℕ) → ((i : ℕ) → i < n → f i ≡ g i) → listed f n ≡ listed g n
  unfolding listed
  listed_ext f g n h = from_ext f g 0 n (λ i l b. h i (omega arith))

  -- filled place by place

  pub listed_none : (f : ℕ → A) → listed f 0 ≡ []
  unfolding listed listed_from
  listed_none f = refl

  from_more : (f : ℕ → A) (a n : ℕ) → listed_from f a (suc n) ≡ listed_from f a n ++ (f (a + n) ∷ [])
  unfolding listed_from
  from_more f a zero = rw add-zero
  from_more f a (suc n) = ap (λ l. f a ∷ l) (from_more f (suc a) n ∙ let x : suc a + n ≡ a + suc n = omega arith in rw x)

  -- one more at the end
  pub listed_more : (f : ℕ → A) (n : ℕ) → listed f (n + 1) ≡ listed f n ++ (f n ∷ [])
  unfolding listed
  listed_more f n = rw (add-one n) (from_more f 0 n ∙ rw zero-add)

  -- a store at one place
  pub listed_set : (f g : ℕ → A) (n i : ℕ) (v : A) → i < n → g i ≡ v → ((j : ℕ) → j < n → ¬ (j ≡ i) → g j ≡ f j) → set (listed f n) i v ≡ listed g n
  listed_set f g n i v l e o = is_listed g n v (set (listed f n) i v) (length-set (listed f n) i v ∙ length_listed f n) at
    where
      at : (j : ℕ) → j < n → get_or (set (listed f n) i v) j v ≡ g j
      at j b = go (ℕ_discrete j i)
        where
          go : Dec (j ≡ i) → get_or (set (listed f n) i v) j v ≡ g j
          go (yes q) = rw q (get_or-set_same (listed f n) i v v (rw (length_listed f n) l) ∙ sym e)
          go (no q) = get_or-set_other (listed f n) i j v v q ∙ listed_at f n j v b ∙ sym (o j b q)

  -- nothing filled yet; one place more; all of it
  pub upto_none : (f g : ℕ → A) (n : ℕ) → listed g n ≡ listed (upto f g 0) n
  upto_none f g n = listed_ext g (upto f g 0) n (λ i b. rw (le-ltb i 0 (omega arith)))

  pub upto_more : (f g : ℕ → A) (n i : ℕ) → i < n → set (listed (upto f g i) n) i (f i) ≡ listed (upto f g (i + 1)) n
  upto_more f g n i l = listed_set (upto f g i) (upto f g (i + 1)) n i (f i) l (rw (lt-ltb i (i + 1) (omega arith))) other
    where
      other : (j : ℕ) → j < n → ¬ (j ≡ i) → upto f g (i + 1) j ≡ upto f g i j
      other j b q = go (ltb j i) refl
        where
          go : (x : Bool) → ltb j i ≡ x → upto f g (i + 1) j ≡ cond x (f j) (g j)
          go true e = rw (lt-ltb j (i + 1) (omega (arith, ltb-true j i e)))
          go false e = rw (le-ltb j (i + 1) (omega (arith, ltb-false j i e)))

  -- `[v; n]`
  pub listed_same : (v : A) (n : ℕ) → replicate n v ≡ listed (λ i. v) n
  listed_same v n = is_listed (λ i. v) n v (replicate n v) (length-replicate n v) (λ i b. get_or-replicate n i v v b)

  -- a list is listed by its own places
  pub listed_self : (xs : List A) (d : A) → xs ≡ listed (λ i. get_or xs i d) (length xs)
  listed_self xs d = is_listed (λ i. get_or xs i d) (length xs) d xs refl (λ i b. refl)

pub map_listed : {A B : Type 0} (g : A → B) (f : ℕ → A) (n : ℕ) → map g (listed f n) ≡ listed (λ i. g (f i)) n
unfolding listed listed_from
map_listed g f n = go 0 n
  where
    go : (a n : ℕ) → map g (listed_from f a n) ≡ listed_from (λ i. g (f i)) a n
    go a zero = refl
    go a (suc n) = ap (λ l. g (f a) ∷ l) (go (suc a) n)

-- one more at the front
pub listed_first : {A : Type 0} (f : ℕ → A) (n : ℕ) → listed f (suc n) ≡ f 0 ∷ listed (λ i. f (suc i)) n
unfolding listed listed_from
listed_first {A} f n = ap (λ l. f 0 ∷ l) (go 0 n)
  where
    go : (a n : ℕ) → listed_from f (suc a) n ≡ listed_from (λ i. f (suc i)) a n
    go a zero = refl
    go a (suc n) = ap (λ l. f (suc a) ∷ l) (go (suc a) n)
