-- Inner: cited by contracts between functions alone, and by laws. What the walk back along the causes needs of the arrays. Each change has its cause there:
-- `session_caused` (trace/proofs/Moved.antt). Assumes nothing.
use Rattle.std.specs.Prelude.{◌≡◌, Bool, true, false, List, ◌⊎◌, ℕ, ◌-◌, ◌≤◌, ◌<◌, get_or}
use mathlib.Core.Logic.{inl, inr}
use mathlib.Core.HLevel.{hedberg}
use native.Mathlib.Decide.{ℕ_discrete}
use native.Mathlib.Omega.{arith}
use Rattle.std.specs.Coded.{le_prop}
use Rattle.lists.specs.Entries.{◌∈◌}
use Rattle.rule.specs.Net.{open_pin}
use Rattle.rule.specs.Cause.{first_pin}
use Rattle.card_wiring.specs.Layout.{pins_at}
use Rattle.trace.specs.Traced.{changed_by}

-- whether what a pin names changed at time t, by arrays of before values and words
abbrev pub moved_at : List Bool → List ℕ → ℕ → ℕ → Bool
moved_at before words = changed_by (λ m. get_or before m false) (λ m. get_or words m 0)

-- a pin names a place of the arrays or is open
abbrev pub Readable : ℕ → Type 0
Readable p = (p < 256) ⊎ (p ≡ open_pin)

-- in one way at most
pub Readable-prop : (p : ℕ) → IsProp (Readable p)
unfolding open_pin
Readable-prop p (inl a) (inl b) = λ i. inl (le_prop a b i)
Readable-prop p (inl a) (inr e) = absurd (omega arith)
Readable-prop p (inr e) (inl b) = absurd (omega arith)
Readable-prop p (inr e) (inr f) = λ i. inr (hedberg ℕ_discrete p open_pin e f i)

-- the first pin of gate g that changed at time t
abbrev pub first_moved : List ℕ → List Bool → List ℕ → List ℕ → ℕ → ℕ → ℕ
first_moved words before counts places g t = first_pin (λ p. moved_at before words p t) (pins_at counts places g)

-- the pins can be read, and every change after time 0 has a cause: a pin that is a net and changed one unit earlier
pub record Caused (words : List ℕ) (before : List Bool) (counts places : List ℕ) : Type 0 where
  pub narrow : (g : ℕ) → get_or counts g 0 ≤ 8
  pub readable : (g p : ℕ) → p ∈ pins_at counts places g → Readable p
  pub cause : (g t : ℕ) → g < 256 → 0 < t → t < 64 → moved_at before words g t ≡ true
      → (first_moved words before counts places g (t - 1) < 256) × (moved_at before words (first_moved words before counts places g (t - 1)) (t - 1) ≡ true)
