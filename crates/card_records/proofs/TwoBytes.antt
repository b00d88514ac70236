-- A number in two bytes, the low one first. Assumes nothing.
use mathlib.Core.Path.{◌≡◌, ap₂}
use mathlib.Core.List.{List}
use Prim.Native.Nat.{ℕ, ◌+◌, ◌*◌, ◌/◌, ◌%◌, ◌<◌}
use native.Mathlib.Omega.{arith}
use lib.ListN.{get_or}
use Rattle.card_records.specs.Bytes.{u16_at}
use Rattle.card_records.specs.Written.{Bytes}

module _ (s : List ℕ) (at : ℕ) where
  -- it is the number whose two bytes they are
  pub u16_of : (x : ℕ) → x < 65536 → get_or s at 0 ≡ x % 256 → get_or s (at + 1) 0 ≡ x / 256 % 256 → u16_at s at ≡ x
  unfolding u16_at
  u16_of x few low high = omega arith

  -- and they are the number's two bytes
  pub of_u16 : Bytes s → (get_or s at 0 ≡ u16_at s at % 256) × (get_or s (at + 1) 0 ≡ u16_at s at / 256 % 256)
  unfolding u16_at
  of_u16 bytes = (omega (arith, bytes at, bytes (at + 1)), omega (arith, bytes at, bytes (at + 1)))

  -- the same bytes are the same number
  pub u16_same : (t : List ℕ) → get_or s at 0 ≡ get_or t at 0 → get_or s (at + 1) 0 ≡ get_or t (at + 1) 0 → u16_at s at ≡ u16_at t at
  unfolding u16_at
  u16_same t low high = ap₂ (λ x y. x + 256 * y) low high
