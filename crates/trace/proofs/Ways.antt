-- The nets on the way back from a change, written into room from a place on. Assumes nothing.
use mathlib.Core.Path.{◌≡◌, sym, ap}
use mathlib.Core.Bool.{Bool}
use mathlib.Core.List.{List}
use Prim.Native.Nat.{ℕ, ◌+◌, ◌-◌, ◌≤◌, ◌<◌}
use native.Mathlib.Numerals.{add-one}
use lib.ListN.{set}
use lib.Seq.{sets}
use Rattle.rule.specs.Net.{Net, pins}
use Rattle.rule.specs.Cause.{first_pin, causes}
use Rattle.rule.proofs.Ways.{way_none, way_more}

module _ (c : List Net) (moved : ℕ → ℕ → Bool) where
  pub wrote_one : (room : List ℕ) (at n t : ℕ) → t ≤ 0 → set room at n ≡ sets room at (causes c moved n t)
  wrote_one room at n t l = ap (sets room at) (sym (way_none c moved n t l))

  pub wrote_more : (room : List ℕ) (at n t : ℕ) → 0 < t
      → sets (set room at n) (at + 1) (causes c moved (first_pin (λ p. moved p (t - 1)) (pins c n)) (t - 1)) ≡ sets room at (causes c moved n t)
  wrote_more room at n t l = rw (add-one at) (ap (sets room at) (sym (way_more c moved n t l)))
