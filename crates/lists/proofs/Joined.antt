-- Lists joined by `each` and `when`, and `from`: what stands in them, and how long they are. Assumes nothing.
use mathlib.Core.Path.{◌≡◌, refl, sym, ap, ap₂, ◌∙◌}
use mathlib.Core.Bool.{Bool, true, false}
use mathlib.Core.List.Memᴰ
use mathlib.Core.List.{List, [], ◌∷◌, ◌++◌, append_assoc}
use mathlib.Core.Logic.{◌⊎◌, inl, inr}
use Prim.Native.Nat.{ℕ, zero, suc, ◌+◌, ◌≤◌, ◌<◌}
use native.Mathlib.Omega.{arith}
use native.Mathlib.Decide.{ℕ_discrete}
use lib.ListN.{length, length-append}
use Rattle.lists.specs.Entries.{◌∈◌, each, when, from, sum}

-- `from`

pub in_from : (a k x : ℕ) → a ≤ x → x < a + k → x ∈ from a k
in_from a zero x h h' = absurd (omega arith)
in_from a (suc k) x h h' = go (in_from (suc a) k x) (ℕ_discrete x a)
  where
    go : (suc a ≤ x → x < suc a + k → x ∈ from (suc a) k) → Dec (x ≡ a) → x ∈ a ∷ from (suc a) k
    go ih (yes e) = Memᴰ.head e
    go ih (no e) = Memᴰ.tail (ih (omega arith) (omega arith))

pub out_from : (a k x : ℕ) → x ∈ from a k → (a ≤ x) × (x < a + k)
out_from a zero x m = absurd (Memᴰ.not-nil m)
out_from a (suc k) x m = go (out_from (suc a) k x) (Memᴰ.cases_cons m)
  where
    go : (x ∈ from (suc a) k → (suc a ≤ x) × (x < suc a + k)) → (x ≡ a) ⊎ (x ∈ from (suc a) k) → (a ≤ x) × (x < a + suc k)
    go ih (inl e) = (omega arith, omega arith)
    go ih (inr h) = let r = ih h in (omega arith, omega arith)

pub length_from : (a k : ℕ) → length (from a k) ≡ k
length_from a zero = refl
length_from a (suc k) = ap suc (length_from (suc a) k)

-- one more at the end
pub from_more : (a k : ℕ) → from a (suc k) ≡ from a k ++ ((a + k) ∷ [])
from_more a zero = let e : a + 0 ≡ a = omega arith in rw e
from_more a (suc k) = let e : suc a + k ≡ a + suc k = omega arith in ap (λ l. a ∷ l) (from_more (suc a) k ∙ ap (λ x. from (suc a) k ++ (x ∷ [])) e)

-- `when`

pub in_when : {A : Type 0} (b : Bool) (xs : List A) (x : A) → b ≡ true → x ∈ xs → x ∈ when b xs
in_when b xs x e m = rw e m

pub out_when : {A : Type 0} (b : Bool) (xs : List A) (x : A) → x ∈ when b xs → (b ≡ true) × (x ∈ xs)
out_when true xs x m = (refl, m)
out_when false xs x m = absurd (Memᴰ.not-nil m)

-- `each`

module _ {A B : Type 0} (f : A → List B) where
  in_one : (x : A) (y : B) (xs : List A) → x ∈ xs → y ∈ f x → y ∈ each f xs
  in_one x y xs (Memᴰ.head {x = z} {xs = zs} e) h = Memᴰ.append_left (each f zs) (rw e at h)
  in_one x y xs (Memᴰ.tail {x = z} {xs = zs} m) h = Memᴰ.append_right (f z) (in_one x y zs m h)

  pub in_each : (xs : List A) (x : A) (y : B) → x ∈ xs → y ∈ f x → y ∈ each f xs
  in_each xs x y = in_one x y xs

  pub out_each : (xs : List A) (y : B) → y ∈ each f xs → (x : A) × (x ∈ xs) × (y ∈ f x)
  out_each [] y m = absurd (Memᴰ.not-nil m)
  out_each (x ∷ xs) y m = go (out_each xs y) (Memᴰ.append_cases (f x) m)
    where
      go : (y ∈ each f xs → (z : A) × (z ∈ xs) × (y ∈ f z)) → (y ∈ f x) ⊎ (y ∈ each f xs) → (z : A) × (z ∈ x ∷ xs) × (y ∈ f z)
      go ih (inl h) = (x, Memᴰ.head refl, h)
      go ih (inr h) = let r = ih h in (r.0, Memᴰ.tail r.1, r.2)

  pub each_append : (xs ys : List A) → each f (xs ++ ys) ≡ each f xs ++ each f ys
  each_append [] ys = refl
  each_append (x ∷ xs) ys = ap (λ l. f x ++ l) (each_append xs ys) ∙ sym (append_assoc (f x) (each f xs) (each f ys))

  pub length_each : (xs : List A) → length (each f xs) ≡ sum (λ x. length (f x)) xs
  length_each [] = refl
  length_each (x ∷ xs) = length-append (f x) (each f xs) ∙ ap (λ k. length (f x) + k) (length_each xs)

pub each_ext : {A B : Type 0} (f g : A → List B) (xs : List A) → ((x : A) → x ∈ xs → f x ≡ g x) → each f xs ≡ each g xs
each_ext f g [] h = refl
each_ext f g (x ∷ xs) h = ap₂ ◌++◌ (h x (Memᴰ.head refl)) (each_ext f g xs (λ y m. h y (Memᴰ.tail m)))

-- `sum`

module _ {A : Type 0} where
  pub sum_on : (f g : A → ℕ) (xs : List A) → ((x : A) → x ∈ xs → f x ≡ g x) → sum f xs ≡ sum g xs
  sum_on f g [] h = refl
  sum_on f g (x ∷ xs) h = ap₂ ◌+◌ (h x (Memᴰ.head refl)) (sum_on f g xs (λ y m. h y (Memᴰ.tail m)))

  pub sum_append : (f : A → ℕ) (xs ys : List A) → sum f (xs ++ ys) ≡ sum f xs + sum f ys
  sum_append f [] ys = omega arith
  sum_append f (x ∷ xs) ys = let h = sum_append f xs ys in omega arith

  pub sum_none : (f : A → ℕ) (xs : List A) → ((x : A) → x ∈ xs → f x ≡ 0) → sum f xs ≡ 0
  sum_none f [] h = refl
  sum_none f (x ∷ xs) h = let a = h x (Memᴰ.head refl) in let b = sum_none f xs (λ y m. h y (Memᴰ.tail m)) in omega arith

  pub sum_add : (f g : A → ℕ) (xs : List A) → sum (λ x. f x + g x) xs ≡ sum f xs + sum g xs
  sum_add f g [] = refl
  sum_add f g (x ∷ xs) = let h = sum_add f g xs in omega arith

pub sum_more : (f : ℕ → ℕ) (a k : ℕ) → sum f (from a (suc k)) ≡ sum f (from a k) + f (a + k)
sum_more f a k = ap (sum f) (from_more a k) ∙ sum_append f (from a k) _ ∙ omega arith
