-- Inner: cited by contracts between functions alone, and by laws. What the loops over a card's arrays need, and what they find there: ways back, the order
-- of the gates, the PC-sets. Of a card that is laid out it is the card's own: `fits_laid`, `levels_laid`, `order_laid`
-- (card_wiring/proofs/Layouts.antt), `sets_laid`, `sizes_laid` (card_wiring/proofs/CardSets.antt). Assumes nothing.
use Rattle.std.specs.Prelude.{◌≡◌, Bool, false, ◌&&◌, List, [], ◌∷◌, map, ◌⊎◌, ℕ, ◌≤◌, ◌<◌, ltb, eqb, get_or, length}
use Rattle.lists.specs.Entries.{◌∈◌, some, every, each, when, from, sum}
use Rattle.lists.specs.Listed.{listed}
use Rattle.word.specs.Word.{val, bit, word_of, moved_up}
use Rattle.word.specs.Times.{count}
use Rattle.rule.specs.Net.{open_pin, at_pin, Net, pins}
use Rattle.rule.specs.Level.{most, longest}
use Rattle.rule.specs.Run.{run}
use Rattle.card_wiring.specs.Layout.{pins_at}
use Rattle.card_wiring.specs.Wired.{pin_fits}

-- what the loops need of the arrays
pub record Wires (counts places : List ℕ) (n : ℕ) : Type 0 where
  pub few : n ≤ 256
  pub narrow : (g : ℕ) → get_or counts g 0 ≤ 8
  pub past : (g : ℕ) → n ≤ g → get_or counts g 0 ≡ 0

-- and, once the pins are known to fit
abbrev pub Fitting : List ℕ → List ℕ → ℕ → Type 0
Fitting counts places n = (g p : ℕ) → p ∈ pins_at counts places g → (p < n) ⊎ (p ≡ open_pin)

abbrev pub all_fit : List ℕ → List ℕ → ℕ → Bool
all_fit counts places n = every (λ g. every (pin_fits n) (pins_at counts places g)) (from 0 n)

-- the longest way back from each net, each gate g counted as w g; no way is followed past k gates
abbrev pub backs : (ℕ → ℕ) → List ℕ → List ℕ → ℕ → List ℕ
backs w counts places k = listed (longest w (pins_at counts places) k) 256

-- the highest of the first n
abbrev pub highest : List ℕ → ℕ → ℕ
highest levels n = most (map (λ g. get_or levels g 0) (from 0 n))

-- the nets below n that have level l, by number
abbrev pub row : List ℕ → ℕ → ℕ → List ℕ
row levels n l = each (λ g. when (eqb (get_or levels g 0) l) (g ∷ [])) (from 0 n)

-- the nets by level, 1 to d, then number
unfoldable pub order_of : List ℕ → ℕ → ℕ → List ℕ
order_of levels n d = each (row levels n) (from 1 d)

-- "for a gate, the union over its pins, each element raised by 1", as a word
unfoldable pub joined : ℕ → List ℕ → ℕ
joined g ws = word_of 64 (moved_up false (λ t. some (λ w. bit w t) ws))

-- the sets ahead of the gates: "{0} for inputs and constants", the nets of the card that have no pins; cleared for gates, and past the card. An open pin,
-- which is no entry of the array, has {0}
abbrev pub source_set : List ℕ → ℕ → ℕ → ℕ
source_set counts n = at_pin 1 (λ g. val (ltb g n && eqb (get_or counts g 0) 0))

-- the sets along an order of the gates
unfoldable pub sets_along : List ℕ → List ℕ → ℕ → List ℕ → List ℕ
sets_along counts places n order = listed (run eqb (pins_at counts places) joined (source_set counts n) order) 256

-- the sizes of the sets of an order's gates, added
unfoldable pub sizes_of : List ℕ → List ℕ → ℕ
sizes_of sets order = sum (λ g. count (bit (get_or sets g 0)) 64) order

-- the delay of gate g; no array has it, since that of every gate is one unit
abbrev pub delay_at : ℕ → ℕ
delay_at g = 1

-- a card that fits the arrays: at most 256 nets, and gates of at most 8 pins
pub record Fits (c : List Net) : Type 0 where
  pub few : length c ≤ 256
  pub narrow : (n : ℕ) → length (pins c n) ≤ 8

-- what a gate needs of the arrays
pub record Gates (types counts : List ℕ) (g : ℕ) : Type 0 where
  pub net : g < 256
  pub type : get_or types g 0 < 8
  pub pinned : 0 < get_or counts g 0
  pub single : get_or types g 0 < 2 → get_or counts g 0 ≡ 1
