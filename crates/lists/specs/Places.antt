-- Lists of numbers by place. Assumes nothing.
use Rattle.std.specs.Prelude.{Bool, cond, ◌&&◌, List, ℕ, ◌-◌, eqb, leb, ltb, length, get_or, take, drop}
use Rattle.lists.specs.Entries.{every, from}
use Rattle.lists.specs.Listed.{listed}

-- n entries from a place on
abbrev pub part : List ℕ → ℕ → ℕ → List ℕ
part b at n = take n (drop at b)

-- the entries from one place to another are all 0
unfoldable pub clear : List ℕ → ℕ → ℕ → Bool
clear b at to = every (λ i. eqb (get_or b i 0) 0) (from at (to - at))

-- the entries from one place to another are those of a list, and 0 past its end; all others stay
unfoldable pub area : List ℕ → ℕ → ℕ → List ℕ → List ℕ
area b at to v = listed (λ i. cond (leb at i && ltb i to) (get_or v (i - at) 0) (get_or b i 0)) (length b)
