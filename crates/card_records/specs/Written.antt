-- A card as it is written: its nets' records, one after another, and the end record. Assumes nothing.
use Rattle.std.specs.Prelude.{◌≡◌, true, false, List, [], ◌∷◌, ◌++◌, ℕ, ◌/◌, ◌%◌, ◌≤◌, ◌<◌, length, get_or}
use Rattle.lists.specs.Entries.{◌∈◌, each}
use Rattle.word.specs.Word.{val}
use Rattle.rule.specs.Net.{Net, input, constant, gate, pins_of, is_source}
use Rattle.card_wiring.specs.Layout.{kind_of, type_of}
use Rattle.card_records.specs.Bytes.{type_fits}

-- "All numbers are little-endian."
abbrev pub two : ℕ → List ℕ
two x = x % 256 ∷ x / 256 ∷ []

-- "Each record is a two-byte body length, a two-byte kind, then the body."
abbrev pub record_of : ℕ → List ℕ → List ℕ
record_of kind body = two (length body) ++ (two kind ++ body)

-- the body by kind, 1: "empty"; 2: "one byte, 0 or 1"; 3: "gate type, then 2 bytes a pin"
abbrev pub body_of : Net → List ℕ
body_of input = []
body_of (constant k) = val k ∷ []
body_of (gate ty ps) = ty ∷ each two ps

unfoldable pub net_bytes : Net → List ℕ
net_bytes w = record_of (kind_of w) (body_of w)

-- kind 4: "empty", "end of card"
abbrev pub end_bytes : List ℕ
end_bytes = record_of 4 []

unfoldable pub card_bytes : List Net → List ℕ
card_bytes c = each net_bytes c ++ end_bytes

-- what a record can say: a gate of a known type, with the pin count that the type asks, at most 8, and pins of two bytes
abbrev pub Legal : Net → Type 0
Legal w = is_source w ≡ false → (type_fits (type_of w) (length (pins_of w)) ≡ true) × (length (pins_of w) ≤ 8) × ((p : ℕ) → p ∈ pins_of w → p < 65536)

abbrev pub AllLegal : List Net → Type 0
AllLegal c = (w : Net) → w ∈ c → Legal w

-- bytes are below 256
abbrev pub Bytes : List ℕ → Type 0
Bytes s = (i : ℕ) → get_or s i 0 < 256
