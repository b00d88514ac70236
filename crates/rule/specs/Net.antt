-- The nets of a card, its pins, and the open pin. Assumes nothing.
-- "A card is a set of nets, numbered from 0 in the order of their records. A net is an input, a constant, or the output of one gate."
use Rattle.std.specs.Prelude.{◌≡◌, Bool, true, false, cond, List, [], ◌⊎◌, ℕ, ◌<◌, eqb, get_or, length}
use Rattle.lists.specs.Entries.{◌∈◌}

-- a gate has its type and the numbers that its pins name
pub data Net : Type 0 where
  input : Net
  constant : Bool → Net
  gate : ℕ → List ℕ → Net

-- "Pin value 65535 is an open pin."
unfoldable pub open_pin : ℕ
open_pin = 65535

-- "An open pin reads as if wired to a constant 0."
unfoldable pub open_value : Bool
open_value = false

-- what a pin finds in f, a function of the nets: of an open pin, which names no net, it is `loose`
unfoldable pub at_pin : {A : Type 0} → A → (ℕ → A) → ℕ → A
at_pin loose f p = cond (eqb p open_pin) loose (f p)

-- what a number names: a net of the card; the open pin is a constant ("An open pin counts as a constant"); past the card
-- there is nothing, and that is a constant 0 whatever an open pin is
unfoldable pub net_at : List Net → ℕ → Net
net_at c n = at_pin (constant open_value) (λ m. get_or c m (constant false)) n

abbrev pub pins_of : Net → List ℕ
pins_of input = []
pins_of (constant k) = []
pins_of (gate ty ps) = ps

-- what the pins of n name, in their order
abbrev pub pins : List Net → ℕ → List ℕ
pins c n = pins_of (net_at c n)

abbrev pub is_input : Net → Bool
is_input input = true
is_input (constant k) = false
is_input (gate ty ps) = false

-- an input or a constant
abbrev pub is_source : Net → Bool
is_source input = true
is_source (constant k) = true
is_source (gate ty ps) = false

-- every pin names a net of the card or is open
abbrev pub Named : List Net → Type 0
Named c = (n p : ℕ) → p ∈ pins c n → (p < length c) ⊎ (p ≡ open_pin)

-- every gate has a pin
abbrev pub Pinned : List Net → Type 0
Pinned c = (n : ℕ) → is_source (net_at c n) ≡ false → ¬ (pins c n ≡ [])
