-- Inner: cited by contracts between functions alone, and by laws. What stands in the words ahead of a pass: constants, the values that the last one left, and a
-- vector's bytes in the words of the inputs. With all bytes put the inputs have the values that the vector gives them, and nothing else moves: `nets_put_lem`
-- (inputs/proofs/Starts.antt). Assumes nothing.
use Rattle.std.specs.Prelude.{Bool, false, cond, List, ℕ, zero, suc, eqb, get_or, set}
use Rattle.lists.specs.Listed.{listed}
use Rattle.word.specs.Word.{bit, is_one, word_of}

-- a constant's value; a net of another kind has none
abbrev pub constant_at : ℕ → ℕ → Bool
constant_at kind ty = cond (eqb kind 2) (is_one ty) false

-- "The value at 63 is the next before value."
abbrev pub tops_of : List ℕ → List Bool
tops_of words = listed (λ n. bit (get_or words n 0) 63) 256

-- an input's word: its byte's value at every time
abbrev pub byte_word : List ℕ → ℕ → ℕ
byte_word v j = word_of 64 (λ t. is_one (get_or v j 0))

-- words in which the first j of some nets have the words f 0, f 1, ..
unfoldable pub nets_put : List ℕ → (ℕ → ℕ) → ℕ → List ℕ → List ℕ
nets_put nets f zero words = words
nets_put nets f (suc j) words = set (nets_put nets f j words) (get_or nets j 0) (f j)
