-- Sets of times, each a test on numbers: how many, the least, the largest. Assumes nothing.
use Rattle.std.specs.Prelude.{Bool, true, cond, ℕ, zero, suc, ◌+◌}
use Rattle.word.specs.Word.{val}

-- how many of the numbers below n are in the set
unfoldable pub count : (ℕ → Bool) → ℕ → ℕ
count f zero = 0
count f (suc n) = val (f n) + count f n

-- the least number below n that is in the set, and n where there is none
unfoldable pub least : (ℕ → Bool) → ℕ → ℕ
least f zero = 0
least f (suc n) = cond (f 0) 0 (suc (least (λ i. f (suc i)) n))

-- the largest number strictly below n that is in the set, and `none` where there is none
unfoldable pub greatest : (ℕ → Bool) → ℕ → ℕ → ℕ
greatest f zero none = none
greatest f (suc n) none = cond (f n) n (greatest f n none)

-- no time of a word: it stands for an element where a set has none
abbrev pub no_time : ℕ
no_time = 64

-- the set with 0 inserted
abbrev pub zero_in : (ℕ → Bool) → ℕ → Bool
zero_in f zero = true
zero_in f (suc t) = f (suc t)
