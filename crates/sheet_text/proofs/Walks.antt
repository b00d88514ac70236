-- The walk along the heads to the end of the card. Assumes nothing.
use mathlib.Core.Path.{◌≡◌, refl, sym, ap, ap₂, ◌∙◌}
use mathlib.Core.Bool.{true, false, cond}
use mathlib.Core.List.{List}
use Prim.Native.Nat.{ℕ, zero, suc, ◌+◌, ◌≤◌, ◌<◌}
use native.Mathlib.Omega.{arith}
use lib.Dec.{ltb}
use lib.ListN.{length}
use borrow.Author.Tests.{lt-ltb, le-ltb}
use Rattle.card_records.specs.Bytes.{u16_at}
use Rattle.sheet_text.specs.Walk.{is_end, end_from, card_end}

module _ (file : List ℕ) where
  -- a head takes a byte at least: with a turn for each byte that is left, more turns change nothing
  fuel : (k j at : ℕ) → length file ≤ at + k → length file ≤ at + j → end_from k file at ≡ end_from j file at
  unfolding end_from
  fuel zero zero at p q = refl
  fuel zero (suc j) at p q = rw (lt-ltb (length file) (at + 4) (omega arith))
  fuel (suc k) zero at p q = rw (lt-ltb (length file) (at + 4) (omega arith))
  fuel (suc k) (suc j) at p q =
      ap (λ x. cond (ltb (length file) (at + 4)) (length file) (cond (is_end (u16_at file (at + 2)) (u16_at file at)) (at + 4) x))
      (fuel k j (at + 4 + u16_at file at) (omega arith) (omega arith))

  abbrev pub ending : ℕ → ℕ
  ending at = end_from (length file) file at

  pub end_first : ending 0 ≡ card_end file
  unfolding card_end
  end_first = refl

  once : (at : ℕ) → ending at ≡ end_from (suc (length file)) file at
  once at = fuel (length file) (suc (length file)) at (omega arith) (omega arith)

  pub end_none : (at : ℕ) → length file < at + 4 → ending at ≡ length file
  unfolding end_from
  end_none at l = once at ∙ rw (lt-ltb (length file) (at + 4) l)

  pub end_here : (at kind len : ℕ) → at + 4 ≤ length file → kind ≡ u16_at file (at + 2) → len ≡ u16_at file at → is_end kind len ≡ true
      → ending at ≡ at + 4
  unfolding end_from
  end_here at kind len l k n e =
      let t : is_end (u16_at file (at + 2)) (u16_at file at) ≡ true = sym (ap₂ is_end k n) ∙ e in
      once at ∙ rw (le-ltb (length file) (at + 4) l, t)

  pub end_on : (at kind len : ℕ) → at + 4 ≤ length file → kind ≡ u16_at file (at + 2) → len ≡ u16_at file at → is_end kind len ≡ false
      → ending at ≡ ending (at + 4 + len)
  unfolding end_from
  end_on at kind len l k n e =
      let t : is_end (u16_at file (at + 2)) (u16_at file at) ≡ false = sym (ap₂ is_end k n) ∙ e in
      once at ∙ rw (le-ltb (length file) (at + 4) l, t) (ap (λ x. ending (at + 4 + x)) (sym n))
