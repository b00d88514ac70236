-- The card of document 01's example. Assumes nothing.
use Rattle.std.specs.Prelude.{List, [], ◌∷◌, ℕ}

-- "00000100 00000100 00000100 0500030002 00000100 0500030004 03000200 00000400"
abbrev pub example_card : List ℕ
example_card =
    0 ∷ 0 ∷ 1 ∷ 0 ∷ 0 ∷ 0 ∷ 1 ∷ 0 ∷ 0 ∷ 0 ∷ 1 ∷ 0
    ∷ 5 ∷ 0 ∷ 3 ∷ 0 ∷ 2 ∷ 0 ∷ 0 ∷ 1 ∷ 0
    ∷ 5 ∷ 0 ∷ 3 ∷ 0 ∷ 4 ∷ 3 ∷ 0 ∷ 2 ∷ 0
    ∷ 0 ∷ 0 ∷ 4 ∷ 0 ∷ []
