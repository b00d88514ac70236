-- Lent room that is written from its front: "Lent room past the part written keeps its contents." Assumes nothing.
use Rattle.std.specs.Prelude.{List, ℕ, length, get_or}
use Rattle.lists.specs.Listed.{listed, upto}

-- f 0, f 1, ..: n of them, at the front of some room; d is what a list is read as past its end, where nothing is written
abbrev pub fills : {A : Type 0} → A → (ℕ → A) → ℕ → List A → List A
fills d f n room = listed (upto f (λ i. get_or room i d) n) (length room)

-- room for numbers
abbrev pub filled : (ℕ → ℕ) → ℕ → List ℕ → List ℕ
filled f n room = fills 0 f n room
