-- A list by its entries: what stands in it, tests on its entries, lists joined, the order of its entries, and how many
-- things there are of a kind. Assumes nothing.
use Rattle.std.specs.Prelude.{◌≡◌, Bool, true, false, ◌&&◌, ◌||◌, ℕ, zero, suc, ◌+◌, length}
use mathlib.Core.List.{List, [], ◌∷◌, ◌++◌, Memᴰ}

infix 40 ◌∈◌
-- x stands in the list
abbrev pub ◌∈◌ : {A : Type 0} → A → List A → Type 0
x ∈ xs = Memᴰ x xs

-- some entry passes the test
abbrev pub some : {A : Type 0} → (A → Bool) → List A → Bool
some f [] = false
some f (x ∷ xs) = f x || some f xs

-- every entry passes the test
abbrev pub every : {A : Type 0} → (A → Bool) → List A → Bool
every f [] = true
every f (x ∷ xs) = f x && every f xs

-- the lists of the entries, one after another
abbrev pub each : {A B : Type 0} → (A → List B) → List A → List B
each f [] = []
each f (x ∷ xs) = f x ++ each f xs

-- the list where the test is passed, else nothing
abbrev pub when : {A : Type 0} → Bool → List A → List A
when true xs = xs
when false xs = []

-- the numbers of the entries, added
abbrev pub sum : {A : Type 0} → (A → ℕ) → List A → ℕ
sum f [] = 0
sum f (x ∷ xs) = f x + sum f xs

-- a, a + 1, ..: k of them
abbrev pub from : ℕ → ℕ → List ℕ
from a zero = []
from a (suc k) = a ∷ from (suc a) k

-- each entry stands in R to every later one
abbrev pub Sorted : {A : Type 0} → (A → A → Type 0) → List A → Type 0
Sorted R [] = Unit {0}
Sorted R (x ∷ xs) = ((y : _) → y ∈ xs → R x y) × Sorted R xs

-- no entry stands twice
abbrev pub Distinct : {A : Type 0} → List A → Type 0
Distinct xs = Sorted (λ x y. ¬ (x ≡ y)) xs

-- k things have P: some list has each of them once, nothing else, and k entries
pub record Number {A : Type 0} (P : A → Type 0) (k : ℕ) : Type 0 where
  pub entries : List A
  pub once : Distinct entries
  pub all : (x : A) → P x → x ∈ entries
  pub only : (x : A) → x ∈ entries → P x
  pub size : length entries ≡ k
