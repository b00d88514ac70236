-- A list given by a function of the place. Assumes nothing.
use Rattle.std.specs.Prelude.{cond, List, [], ◌∷◌, ℕ, zero, suc, ltb}

-- f a, f (a + 1), ..: n of them
unfoldable pub listed_from : {A : Type 0} → (ℕ → A) → ℕ → ℕ → List A
listed_from f a zero = []
listed_from f a (suc n) = f a ∷ listed_from f (suc a) n

-- f 0, f 1, ..: n of them
unfoldable pub listed : {A : Type 0} → (ℕ → A) → ℕ → List A
listed f n = listed_from f 0 n

-- f at the places below i, else g: what a list holds that is filled from the front
abbrev pub upto : {A : Type 0} → (ℕ → A) → (ℕ → A) → ℕ → ℕ → A
upto f g i j = cond (ltb j i) (f j) (g j)
