-- A gate's pins taken in one after another, whatever is read of each: the first, one more, all of them, and the gate's function of what they read. Assumes nothing.
use mathlib.Core.Path.{◌≡◌, sym, ap, ap₂, ◌∙◌}
use mathlib.Core.Bool.{Bool}
use mathlib.Core.List.{List, map}
use Prim.Native.Nat.{ℕ, ◌+◌, ◌*◌, ◌<◌}
use native.Mathlib.Omega.{arith}
use lib.ListN.{get_or, length-map}
use Rattle.lists.specs.Listed.{listed}
use Rattle.lists.proofs.Listed.{length_listed, map_listed}
use Rattle.word.specs.Word.{differ}
use Rattle.gate.specs.Gate.{inverts, gate as gate_fn}
use Rattle.gate.specs.Inner.Pins.{by_pins, with_pin, of_pins}
use Rattle.gate.proofs.Pins.{by_first, by_more, gate_by_pins}
use Rattle.card_wiring.specs.Layout.{pins_at}

module _ (read : ℕ → Bool) (places : List ℕ) (g ty : ℕ) where
  -- what is read of pin i, and what the first j pins come to
  abbrev pin_read : ℕ → Bool
  pin_read i = read (get_or places (g * 8 + i) 0)

  abbrev pub first_pins : ℕ → Bool
  first_pins j = by_pins ty (listed pin_read j)

  pub gather_first : (b : Bool) → b ≡ read (get_or places (g * 8) 0) → b ≡ first_pins 1
  gather_first b e =
      let first : g * 8 ≡ g * 8 + 0 = omega arith in
      e ∙ ap (λ k. read (get_or places k 0)) first ∙ by_first ty pin_read

  pub gather_more : (j : ℕ) (known b next : Bool) → known ≡ first_pins j → b ≡ read (get_or places (g * 8 + j) 0) → next ≡ with_pin ty known b → next ≡ first_pins (j + 1)
  gather_more j known b next e h q = q ∙ ap₂ (with_pin ty) e h ∙ by_more ty pin_read j

  module _ (counts : List ℕ) where
    abbrev pins_read : List Bool
    pins_read = map read (pins_at counts places g)

    pub gather_all : (j : ℕ) (known : Bool) → j ≡ get_or counts g 0 → known ≡ first_pins j → known ≡ by_pins ty pins_read
    gather_all j known e h = h ∙ ap (by_pins ty) (ap (listed pin_read) e ∙ sym (map_listed read (λ i. get_or places (g * 8 + i) 0) (get_or counts g 0)))

    -- BUF and NOT have one pin
    pub gather_gate : (i all b : Bool) → (ty < 2 → get_or counts g 0 ≡ 1) → i ≡ inverts ty → all ≡ by_pins ty pins_read → b ≡ differ all i → b ≡ gate_fn ty pins_read
    unfolding of_pins
    gather_gate i all b single hi ha hb =
        hb ∙ ap₂ differ ha hi ∙ gate_by_pins ty pins_read (λ l. length-map (pins_at counts places g) read ∙ length_listed _ (get_or counts g 0) ∙ single l)
