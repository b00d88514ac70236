-- Inner: cited by contracts between functions alone, and by laws. A gate's value, pin by pin: what the pins so far come to, and what the gate gives of all of
-- them. It is the gate's function: `gate_by_pins` (gate/proofs/Pins.antt). Assumes nothing.
use Rattle.std.specs.Prelude.{Bool, ◌||◌, ◌&&◌, cond, List, ℕ, ltb}
use Rattle.lists.specs.Entries.{some, every}
use Rattle.word.specs.Word.{differ}
use Rattle.gate.specs.Gate.{controls, inverts, odd}

-- what some pins come to: where 1 controls, whether one of them is 1; where 0 does, whether all are; for XOR and XNOR, whether an odd number is
unfoldable pub by_pins : ℕ → List Bool → Bool
by_pins ty ps = cond (ltb ty 6) (cond (controls ty) (some (λ p. p) ps) (every (λ p. p) ps)) (odd ps)

-- with one pin more
unfoldable pub with_pin : ℕ → Bool → Bool → Bool
with_pin ty known p = cond (ltb ty 6) (cond (controls ty) (known || p) (known && p)) (differ known p)

-- what the gate gives of what all its pins come to
unfoldable pub of_pins : ℕ → Bool → Bool
of_pins ty all = differ all (inverts ty)
