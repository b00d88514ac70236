-- Inner: cited by contracts between functions alone, and by laws. The times that a step can have, the variables as an array, and where they start. Every
-- step has such a time: `step_low` (step_list/proofs/Cards.antt); the start is `start_vars`: `start_is` (step_run/proofs/Vectors.antt). Assumes nothing.
use Rattle.std.specs.Prelude.{◌≡◌, Bool, false, List, ℕ, ◌^◌, ◌<◌, length, get_or}
use Rattle.lists.specs.Listed.{listed}
use Rattle.word.specs.Word.{word_of}
use Rattle.inputs.specs.Inner.Starts.{nets_put, byte_word}

-- the times that a step can have: an element of a gate's set is above 0, and those of a word are below 64
pub record StepTime (t : ℕ) : Type 0 where
  pub late : 0 < t
  pub low : t < 64

-- what an array of 256 words is
pub record Words (words : List ℕ) : Type 0 where
  pub size : length words ≡ 256
  pub low : (n : ℕ) → get_or words n 0 < 2 ^ 64

-- "The variable for it takes the before value ahead of all steps": every variable of a net holds its before value, that of the net of input j byte j
unfoldable pub start_in : List Bool → List ℕ → List ℕ → List ℕ
start_in before feeds v = nets_put feeds (byte_word v) (length v) (listed (λ n. word_of 64 (λ t. get_or before n false)) 256)
