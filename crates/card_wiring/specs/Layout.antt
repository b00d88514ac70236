-- A card laid out in arrays of numbers, an entry a net: its kind, its type, how many pins it has; and 8 places a net for what they name.
-- Assumes nothing.
use Rattle.std.specs.Prelude.{false, cond, List, ℕ, zero, suc, ◌+◌, ◌*◌, ◌/◌, ◌%◌, ltb, length, get_or}
use Rattle.lists.specs.Listed.{listed}
use Rattle.word.specs.Word.{is_one, val}
use Rattle.rule.specs.Net.{Net, input, constant, gate, net_at, pins}

-- the kind of a net is its record's: 1 an input, 2 a constant, 3 a gate
abbrev pub kind_of : Net → ℕ
kind_of input = 1
kind_of (constant k) = 2
kind_of (gate ty ps) = 3

-- a gate's type, a constant's value
abbrev pub type_of : Net → ℕ
type_of input = 0
type_of (constant k) = val k
type_of (gate ty ps) = ty

-- past the card all is 0
unfoldable pub kinds_of : List Net → List ℕ
kinds_of c = listed (λ n. cond (ltb n (length c)) (kind_of (net_at c n)) 0) 256

unfoldable pub types_of : List Net → List ℕ
types_of c = listed (λ n. cond (ltb n (length c)) (type_of (net_at c n)) 0) 256

unfoldable pub counts_of : List Net → List ℕ
counts_of c = listed (λ n. length (pins c n)) 256

-- place 8 n + j is for pin j of net n
unfoldable pub places_of : List Net → List ℕ
places_of c = listed (λ k. get_or (pins c (k / 8)) (k % 8) 0) 2048

-- what the pins of net g name, as the arrays have it
abbrev pub pins_at : List ℕ → List ℕ → ℕ → List ℕ
pins_at counts places g = listed (λ j. get_or places (g * 8 + j) 0) (get_or counts g 0)

-- the net that a kind, a type and pins mean
abbrev pub net_of : ℕ → ℕ → List ℕ → Net
net_of zero ty ps = constant false
net_of (suc zero) ty ps = input
net_of (suc (suc zero)) ty ps = constant (is_one ty)
net_of (suc (suc (suc k))) ty ps = gate ty ps

-- the card that the arrays mean
unfoldable pub card_in : List ℕ → List ℕ → List ℕ → List ℕ → ℕ → List Net
card_in kinds types counts places n = listed (λ g. net_of (get_or kinds g 0) (get_or types g 0) (pins_at counts places g)) n

-- a list at the front of 256 places, the rest 0
abbrev pub padded : List ℕ → List ℕ
padded xs = listed (λ i. get_or xs i 0) 256
