-- Lists whose entries stand in an order, and lists in which no entry stands twice. Assumes nothing.
use mathlib.Core.Path.{◌≡◌, refl, sym, ap, subst}
use mathlib.Core.Bool.{Bool, true, false}
use mathlib.Core.List.Memᴰ
use mathlib.Core.List.{List, [], ◌∷◌, ◌++◌}
use mathlib.Core.Logic.{◌⊎◌, inl, inr}
use Prim.Native.Nat.{ℕ, zero, suc, ◌<◌}
use native.Mathlib.Omega.{arith}
use lib.ListN.{length, get_or}
use Rattle.lists.specs.Entries.{◌∈◌, each, when, from, Sorted, Distinct}
use Rattle.lists.proofs.Joined.{out_each, out_from}

module _ {A : Type 0} where
  -- an entry stands in its list
  pub at_in : (xs : List A) (i : ℕ) (d : A) → i < length xs → get_or xs i d ∈ xs
  at_in [] i d l = absurd (omega arith)
  at_in (x ∷ xs) zero d l = Memᴰ.head refl
  at_in (x ∷ xs) (suc i) d l = Memᴰ.tail (at_in xs i d (omega arith))

  -- what holds of the entries and of the default holds of what is read
  pub read_all : (P : A → Type 0) (xs : List A) (i : ℕ) (d : A) → ((x : A) → x ∈ xs → P x) → P d → P (get_or xs i d)
  read_all P [] i d h e = e
  read_all P (x ∷ xs) zero d h e = h x (Memᴰ.head refl)
  read_all P (x ∷ xs) (suc i) d h e = read_all P xs i d (λ y m. h y (Memᴰ.tail m)) e

  -- and, where none stands twice, an entry stands at one place only
  pub distinct_at : (xs : List A) (d : A) → Distinct xs → (i j : ℕ) → i < length xs → j < length xs → get_or xs i d ≡ get_or xs j d → i ≡ j
  distinct_at [] d o i j l h e = absurd (omega arith)
  distinct_at (x ∷ xs) d o zero zero l h e = refl
  distinct_at (x ∷ xs) d o zero (suc j) l h e = absurd (o.0 (get_or xs j d) (at_in xs j d (omega arith)) e)
  distinct_at (x ∷ xs) d o (suc i) zero l h e = absurd (o.0 (get_or xs i d) (at_in xs i d (omega arith)) (sym e))
  distinct_at (x ∷ xs) d o (suc i) (suc j) l h e = ap suc (distinct_at xs d o.1 i j (omega arith) (omega arith) e)

  -- entries by their places
  pub sorted_at : (R : A → A → Type 0) (xs : List A) (d : A) (i j : ℕ) → i < j → j < length xs → Sorted R xs → R (get_or xs i d) (get_or xs j d)
  sorted_at R [] d i j l m s = absurd (omega arith)
  sorted_at R (x ∷ xs) d i zero l m s = absurd (omega arith)
  sorted_at R (x ∷ xs) d zero (suc j) l m s = s.0 (get_or xs j d) (at_in xs j d (omega arith))
  sorted_at R (x ∷ xs) d (suc i) (suc j) l m s = sorted_at R xs d i j (omega arith) (omega arith) s.1

  pub sorted_append : (R : A → A → Type 0) (xs ys : List A) → Sorted R xs → Sorted R ys → ((x y : A) → x ∈ xs → y ∈ ys → R x y) → Sorted R (xs ++ ys)
  sorted_append R [] ys sx sy h = sy
  sorted_append R (x ∷ xs) ys sx sy h =
      (λ y m. go y (Memᴰ.append_cases xs m), sorted_append R xs ys sx.1 sy (λ a b m n. h a b (Memᴰ.tail m) n))
    where
      go : (y : A) → (y ∈ xs) ⊎ (y ∈ ys) → R x y
      go y (inl m) = sx.0 y m
      go y (inr m) = h x y (Memᴰ.head refl) m

  pub sorted_when : (R : A → A → Type 0) (b : Bool) (xs : List A) → Sorted R xs → Sorted R (when b xs)
  sorted_when R true xs s = s
  sorted_when R false xs s = tt

  pub sorted_one : (R : A → A → Type 0) (x : A) → Sorted R (x ∷ [])
  sorted_one R x = (λ y m. absurd (mathlib.Core.List.Memᴰ.not-nil m), tt)

  -- a weaker order, on the entries
  pub sorted_weaken : (R S : A → A → Type 0) (xs : List A) → ((x y : A) → x ∈ xs → y ∈ xs → R x y → S x y) → Sorted R xs → Sorted S xs
  sorted_weaken R S [] h s = tt
  sorted_weaken R S (x ∷ xs) h s =
      (λ y m. h x y (Memᴰ.head refl) (Memᴰ.tail m) (s.0 y m), sorted_weaken R S xs (λ a b m n. h a b (Memᴰ.tail m) (Memᴰ.tail n)) s.1)

  -- where nothing stands in R to itself no entry stands twice
  pub distinct_of_sorted : (R : A → A → Type 0) (xs : List A) → ((x : A) → R x x → ⊥) → Sorted R xs → Distinct xs
  distinct_of_sorted R xs never s = sorted_weaken R (λ x y. ¬ (x ≡ y)) xs (λ x y m n r e. never y (subst (λ z. R z y) e r)) s

  -- in the order of a split list
  pub sorted_split : (R : A → A → Type 0) (xs : List A) (k : A) (ys : List A) → Sorted R (xs ++ k ∷ ys) → (y : A) → y ∈ ys → R k y
  sorted_split R [] k ys s y m = s.0 y m
  sorted_split R (x ∷ xs) k ys s y m = sorted_split R xs k ys s.1 y m

pub sorted_from : (a k : ℕ) → Sorted ◌<◌ (from a k)
sorted_from a zero = tt
sorted_from a (suc k) = (λ y m. omega (arith, (out_from (suc a) k y m).0), sorted_from (suc a) k)

-- lists that are each in order, joined in an order that carries over to their entries
pub sorted_each : {A B : Type 0} (Q : A → A → Type 0) (R : B → B → Type 0) (f : A → List B) (xs : List A)
    → ((x : A) → x ∈ xs → Sorted R (f x)) → ((x y : A) (a b : B) → Q x y → a ∈ f x → b ∈ f y → R a b) → Sorted Q xs → Sorted R (each f xs)
sorted_each Q R f [] inner across s = tt
sorted_each Q R f (x ∷ xs) inner across s =
    sorted_append R (f x) (each f xs) (inner x (Memᴰ.head refl)) (sorted_each Q R f xs (λ y m. inner y (Memᴰ.tail m)) across s.1) later
  where
    later : (a b : _) → a ∈ f x → b ∈ each f xs → R a b
    later a b m n = let r = out_each f xs b n in across x r.0 a b (s.0 r.0 r.1) m r.2
