-- The parts of a text between separators. Assumes nothing.
use Rattle.std.specs.Prelude.{cond, List, [], ◌∷◌, ℕ, eqb}

-- the bytes ahead of the first separator
unfoldable pub first_part : ℕ → List ℕ → List ℕ
first_part sep [] = []
first_part sep (b ∷ bs) = cond (eqb b sep) [] (b ∷ first_part sep bs)

-- the parts after the first separator
unfoldable pub later_parts : ℕ → List ℕ → List (List ℕ)
later_parts sep [] = []
later_parts sep (b ∷ bs) = cond (eqb b sep) (first_part sep bs ∷ later_parts sep bs) (later_parts sep bs)

-- all of them, one more than there are separators
abbrev pub parts : ℕ → List ℕ → List (List ℕ)
parts sep text = first_part sep text ∷ later_parts sep text

-- "One operation a line": the words of a line are its parts between blanks
abbrev pub words : List ℕ → List (List ℕ)
words line = parts 32 line
