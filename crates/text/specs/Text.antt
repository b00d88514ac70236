-- Text as bytes: numbers in decimal, whether two texts are the same, and a text put at a place of a page. Assumes nothing.
use Rattle.std.specs.Prelude.{Bool, true, false, cond, List, [], ◌∷◌, ◌++◌, ℕ, zero, suc, ◌+◌, ◌/◌, ◌%◌, eqb, ltb}

-- the byte of a digit
abbrev pub digit : ℕ → ℕ
digit d = 48 + d

-- the decimal digits of n, the highest first, at most k of them
unfoldable pub digits_in : ℕ → ℕ → List ℕ
digits_in zero n = []
digits_in (suc k) n = cond (ltb n 10) (digit n ∷ []) (digits_in k (n / 10) ++ (digit (n % 10) ∷ []))

-- a number in decimal; it has no more digits than one more than itself
unfoldable pub decimal : ℕ → List ℕ
decimal n = digits_in (suc n) n

-- a number and the byte after it
abbrev pub numbered : ℕ → ℕ → List ℕ
numbered n after = decimal n ++ (after ∷ [])

-- a word, a number and the byte after it
abbrev pub named : List ℕ → ℕ → ℕ → List ℕ
named word n after = word ++ numbered n after

-- two texts are the same
unfoldable pub same_text : List ℕ → List ℕ → Bool
same_text [] [] = true
same_text [] (y ∷ ys) = false
same_text (x ∷ xs) [] = false
same_text (x ∷ xs) (y ∷ ys) = cond (eqb x y) (same_text xs ys) false
