-- What a history hands out of a card. Assumes nothing.
use Rattle.std.specs.Prelude.{◌≡◌, Bool, List, ℕ, ◌<◌, length, get_or}
use Rattle.word.specs.Word.{bit, val}
use Rattle.rule.specs.Net.{Net}
use Rattle.rule.specs.Flag.{flag_of}
use Rattle.rule.specs.Numbers.{answer_number, answer_count}
use Rattle.history.specs.Told.{Told}

-- "With 0 comes a count": "history the number of nets". "History fills three lent slices, one entry a net: word, before value (the one from ahead of that
-- word's time 0), flag." Of each net the before value and the values at the times 0 to 63
pub record HandsOut (c : List Net) (before : ℕ → Bool) (values : ℕ → ℕ → Bool) (told : Told) : Type 0 where
  pub number : answer_number told.answer ≡ 0
  pub count : answer_count told.answer ≡ length c
  pub words : (n t : ℕ) → n < length c → t < 64 → bit (get_or told.words n 0) t ≡ values n t
  pub befores : (n : ℕ) → n < length c → get_or told.befores n 0 ≡ val (before n)
  pub flags : (n : ℕ) → n < length c → get_or told.flags n 0 ≡ flag_of (before n) (values n)
