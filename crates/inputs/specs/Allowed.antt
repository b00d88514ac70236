-- What document 01 allows of a vector, said without a procedure, and when it gives each number. Assumes nothing.
use Rattle.std.specs.Prelude.{◌≡◌, Bool, true, false, List, ℕ, ◌<◌, ◌≤◌, length}
use Rattle.lists.specs.Entries.{◌∈◌}
use Rattle.rule.specs.declared.Refusal.{Refusal}
use Rattle.rule.specs.declared.Refusal.TheVariants.{NotReady, VectorLength, VectorByte}

-- a vector byte is 0 or 1: it is below this
abbrev pub byte_limit : ℕ
byte_limit = 2

-- "one byte an input", each 0 or 1
pub record Vector (inputs : ℕ) (v : List ℕ) : Type 0 where
  pub size : length v ≡ inputs
  pub bits : (b : ℕ) → b ∈ v → b < byte_limit

-- "Rest: 12 (card only), 10, 11. Vector by either engine: 12, 10, 11." `ready`: there is a card; for a vector, it is rested
pub data VectorGets (ready : Bool) (inputs : ℕ) (v : List ℕ) : Refusal → Type 0 where
  gets_12 : ready ≡ false → VectorGets ready inputs v NotReady
  gets_10 : ready ≡ true → ¬ (length v ≡ inputs) → VectorGets ready inputs v VectorLength
  gets_11 : ready ≡ true → length v ≡ inputs → (b : ℕ) → b ∈ v → byte_limit ≤ b → VectorGets ready inputs v VectorByte
