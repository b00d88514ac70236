-- Orders: step numbers parted by commas, and `-` where there are none. Assumes nothing.
use Rattle.std.specs.Prelude.{Bool, true, false, cond, List, [], ◌∷◌, map, Option, Some, None, ℕ, ltb}
use Rattle.drill_words.specs.Parts.{parts}
use Rattle.drill_words.specs.Digits.{number_spelled, is_dash}

-- a number was read
abbrev pub is_spelled : Option ℕ → Bool
is_spelled (Some n) = true
is_spelled None = false

-- every word spells a number
unfoldable pub all_numbers : List (List ℕ) → Bool
all_numbers [] = true
all_numbers (w ∷ ws) = cond (is_spelled (number_spelled w)) (all_numbers ws) false

-- "ORDER like 0,2,1 or -"
unfoldable pub is_order : List ℕ → Bool
is_order word = cond (is_dash word) true (all_numbers (parts 44 word))

-- "an order entry over 65,535 is handed on as 65,535"
abbrev pub order_entry : Option ℕ → ℕ
order_entry (Some n) = cond (ltb n 65535) n 65535
order_entry None = 65535

abbrev pub entries : List (List ℕ) → List ℕ
entries words = map (λ w. order_entry (number_spelled w)) words

-- the entries of an order
unfoldable pub order_spelled : List ℕ → List ℕ
order_spelled word = cond (is_dash word) [] (entries (parts 44 word))
