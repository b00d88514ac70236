-- Bit t of a word, and the word that has given bits. Assumes nothing.
use Rattle.std.specs.Prelude.{Bool, true, false, ℕ, zero, suc, ◌+◌, ◌*◌, ◌/◌, ◌%◌, ◌^◌}

-- a digit that is not 0
abbrev pub is_one : ℕ → Bool
is_one zero = false
is_one (suc n) = true

-- the digit of a bool
abbrev pub val : Bool → ℕ
val false = 0
val true = 1

-- the two differ
abbrev pub differ : Bool → Bool → Bool
differ false b = b
differ true false = true
differ true true = false

-- "bit t of a net's word is its value at time t" (document 01, Bit-fields)
unfoldable pub bit : ℕ → ℕ → Bool
bit w t = is_one (w / 2 ^ t % 2)

-- the word that has the bits f 0, f 1, ..: k of them
unfoldable pub word_of : ℕ → (ℕ → Bool) → ℕ
word_of zero f = 0
word_of (suc k) f = val (f 0) + 2 * word_of k (λ t. f (suc t))

-- "moved up by one, with the before value in bit 0" (document 01, Bit-fields)
abbrev pub moved_up : Bool → (ℕ → Bool) → ℕ → Bool
moved_up b f zero = b
moved_up b f (suc t) = f t
