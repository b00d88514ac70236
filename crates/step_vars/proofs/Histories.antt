-- A net's history from its variables, by filling: each time takes the variable of the largest element not above it, first where that element lies near,
-- then twice as far with each turn. Assumes nothing.
use mathlib.Core.Path.{◌≡◌, refl, sym, ap, ap₂, ◌∙◌}
use mathlib.Core.Bool.{Bool, true, false, not, ◌&&◌, ◌||◌, and-true, and-false, or-false}
use mathlib.Core.List.{[], ◌∷◌}
use Prim.Native.Nat.{ℕ, zero, suc, ◌+◌, ◌-◌, ◌*◌, ◌%◌, ◌^◌, ◌≤◌, ◌<◌}
use native.Mathlib.Nat.{mod-lt, lt_of_le_of_lt, two-pow-succ}
use native.Mathlib.Numerals.{add-one}
use native.Mathlib.Omega.{arith}
use native.Mathlib.Decide.{dec_lt}
use lib.Bits.{bit_and, bit_or, and_le_l, and_lt, or_lt}
use lib.Dec.{ltb, lit<}
use lib.ListN.{get_or}
use lib.Pow.{pow_pos, pow_mono}
use borrow.Author.Tests.{lt-ltb, le-ltb}
use Rattle.word.specs.Word.{bit}
use Rattle.word.specs.Times.{greatest, no_time, zero_in}
use Rattle.word.proofs.Bits.{bit-and, bit-or, bit_not, bit_shl, bit_with_zero}
use Rattle.word.proofs.Words.{is_word}
use Rattle.word.proofs.Sets.{greatest_is, greatest_ge, zero_lt, zero_in_lem}
use Rattle.step_vars.specs.Variables.{history_word}

-- The largest element not above a time, of a set with 0 inserted

module _ (f : ℕ → Bool) where
  abbrev last : ℕ → ℕ
  last t = greatest (zero_in f) (t + 1) no_time

  last_in : (t : ℕ) → zero_in f (last t) ≡ true
  last_in t = zero_in_lem f (t + 1) no_time (omega arith)

  -- no element lies between it and the time
  past : (t u : ℕ) → last t < u → u ≤ t → zero_in f u ≡ false
  past t u l m = go (zero_in f u) refl
    where
      go : (b : Bool) → zero_in f u ≡ b → zero_in f u ≡ false
      go true e = absurd (omega (arith, (greatest_ge (zero_in f) (t + 1) no_time u (omega arith) e).0))
      go false e = e

  -- it is that of any time between
  last_same : (t u : ℕ) → last t ≤ u → u ≤ t → last u ≡ last t
  last_same t u l m = greatest_is (zero_in f) (u + 1) no_time (last t) (omega arith) (last_in t) (λ s a b. past t s a (omega arith))

  last_le : (t : ℕ) → last t ≤ t
  last_le t = omega (arith, zero_lt f (t + 1) no_time (omega arith))

  -- an element is its own
  last_own : (t : ℕ) → zero_in f t ≡ true → last t ≡ t
  last_own t e = greatest_is (zero_in f) (t + 1) no_time t (omega arith) e (λ s a b. absurd (omega arith))

  near_own : (t : ℕ) → zero_in f t ≡ ltb t (last t + 1)
  near_own t = go (dec_lt t (last t + 1))
    where
      go : Dec (t < last t + 1) → zero_in f t ≡ ltb t (last t + 1)
      go (yes l) = let e : last t ≡ t = omega (arith, last_le t) in sym (ap (zero_in f) e) ∙ last_in t ∙ sym (lt-ltb t (last t + 1) l)
      go (no l) = past t t (omega arith) (omega arith) ∙ sym (le-ltb t (last t + 1) (omega arith))

module _ (set vars : ℕ) where
  abbrev at : ℕ → Bool
  at t = bit vars (last (bit set) t)

  -- what is known once the filling is s wide: the times less than s past an element, which have its variable
  pub record Wide (known v s : ℕ) : Type 0 where
    pub small : known < 2 ^ 64
    pub fits : v < 2 ^ 64
    pub near : (t : ℕ) → t < 64 → bit known t ≡ ltb t (last (bit set) t + s)
    pub held : (t : ℕ) → t < 64 → bit v t ≡ bit known t && at t

  -- ahead of the first turn, the elements
  pub wide_one : set < 2 ^ 64 → vars < 2 ^ 64 → Wide (bit_or set 1) (bit_and vars (bit_or set 1)) 1
  wide_one a b =
      let small = or_lt 64 set 1 a (lit< tt) in
      record {
        small = small;
        fits = and_lt 64 vars (bit_or set 1) b small;
        near = λ t l. bit_with_zero set t ∙ near_own (bit set) t;
        held = λ t l. bit-and vars (bit_or set 1) t ∙ own t (bit (bit_or set 1) t) refl;
      }
    where
      own : (t : ℕ) (b : Bool) → bit (bit_or set 1) t ≡ b → bit vars t && b ≡ b && at t
      own t true e = and-true (bit vars t) ∙ sym (ap (bit vars) (last_own (bit set) t (sym (bit_with_zero set t) ∙ e)))
      own t false e = and-false (bit vars t)

  -- one turn
  module _ (known v s : ℕ) (w : Wide known v s) where
    abbrev up : ℕ → ℕ
    up x = (x * 2 ^ s) % 2 ^ 64

    up_lt : (x : ℕ) → up x < 2 ^ 64
    up_lt x = mod-lt (x * 2 ^ s) (pow_pos 64)

    -- a time that is not known takes what was known s before
    up_at : (x t : ℕ) → t < 64 → s ≤ t → bit (up x) t ≡ bit x (t - s)
    up_at x t l m = let e : s + (t - s) ≡ t = omega arith in sym (ap (bit (up x)) e) ∙ bit_shl 64 x s (t - s) (omega arith)

    back : (t : ℕ) → t < 64 → last (bit set) t + s ≤ t → bit known (t - s) ≡ ltb t (last (bit set) t + (s + s))
    back t l m = w.near (t - s) (omega arith) ∙ ap (λ x. ltb (t - s) (x + s)) (last_same (bit set) t (t - s) (omega arith) (omega arith)) ∙ go (dec_lt t (last (bit set) t + (s + s)))
      where
        go : Dec (t < last (bit set) t + (s + s)) → ltb (t - s) (last (bit set) t + s) ≡ ltb t (last (bit set) t + (s + s))
        go (yes h) = lt-ltb (t - s) (last (bit set) t + s) (omega arith) ∙ sym (lt-ltb t (last (bit set) t + (s + s)) h)
        go (no h) = le-ltb (t - s) (last (bit set) t + s) (omega arith) ∙ sym (le-ltb t (last (bit set) t + (s + s)) (omega arith))

    known_wider : (t : ℕ) → t < 64 → bit (bit_or known (up known)) t ≡ ltb t (last (bit set) t + (s + s))
    known_wider t l = bit-or known (up known) t ∙ go (dec_lt t (last (bit set) t + s))
      where
        go : Dec (t < last (bit set) t + s) → bit known t || bit (up known) t ≡ ltb t (last (bit set) t + (s + s))
        go (yes h) =
            ap (λ b. b || bit (up known) t) (w.near t l ∙ lt-ltb t (last (bit set) t + s) h) ∙ sym (lt-ltb t (last (bit set) t + (s + s)) (omega arith))
        go (no h) =
            ap (λ b. b || bit (up known) t) (w.near t l ∙ le-ltb t (last (bit set) t + s) (omega arith))
            ∙ up_at known t l (omega arith) ∙ back t l (omega arith)

    held_wider : (t : ℕ) → t < 64 → bit (bit_or v (bit_and (up v) ((2 ^ 64 - 1) - known))) t ≡ bit (bit_or known (up known)) t && at t
    held_wider t l =
        bit-or v (bit_and (up v) ((2 ^ 64 - 1) - known)) t
        ∙ ap₂ ◌||◌ (w.held t l) (bit-and (up v) ((2 ^ 64 - 1) - known) t ∙ ap (λ b. bit (up v) t && b) (bit_not 64 known t w.small l))
        ∙ go (dec_lt t (last (bit set) t + s)) ∙ ap (λ b. b && at t) (sym (known_wider t l))
      where
        go : Dec (t < last (bit set) t + s) → (bit known t && at t) || (bit (up v) t && not (bit known t)) ≡ ltb t (last (bit set) t + (s + s)) && at t
        go (yes h) =
            ap (λ b. (b && at t) || (bit (up v) t && not b)) (w.near t l ∙ lt-ltb t (last (bit set) t + s) h)
            ∙ ap (λ b. at t || b) (and-false (bit (up v) t)) ∙ or-false (at t)
            ∙ ap (λ b. b && at t) (sym (lt-ltb t (last (bit set) t + (s + s)) (omega arith)))
        go (no h) =
            ap (λ b. (b && at t) || (bit (up v) t && not b)) (w.near t l ∙ le-ltb t (last (bit set) t + s) (omega arith))
            ∙ and-true (bit (up v) t) ∙ up_at v t l (omega arith) ∙ w.held (t - s) (omega arith)
            ∙ ap₂ ◌&&◌ (back t l (omega arith)) (ap (bit vars) (last_same (bit set) t (t - s) (omega arith) (omega arith)))

    pub wider : Wide (bit_or known (up known)) (bit_or v (bit_and (up v) ((2 ^ 64 - 1) - known))) (s + s)
    wider = record {
      small = or_lt 64 known (up known) w.small (up_lt known);
      fits = or_lt 64 v (bit_and (up v) ((2 ^ 64 - 1) - known)) w.fits (lt_of_le_of_lt (and_le_l (up v) ((2 ^ 64 - 1) - known)) (up_lt v));
      near = known_wider;
      held = held_wider;
    }

  -- once it is 64 wide every time is known
  pub wide_all : (known v s : ℕ) → 64 ≤ s → Wide known v s → v ≡ history_word set vars
  unfolding history_word
  wide_all known v s m w =
      is_word 64 at v w.fits (λ t b. w.held t b ∙ ap (λ x. x && at t) (w.near t b ∙ lt-ltb t (last (bit set) t + s) (omega arith)))

-- how wide the filling is ahead of turn i
pub turn_width : (i : ℕ) → i < 6 → get_or (1 ∷ 2 ∷ 4 ∷ 8 ∷ 16 ∷ 32 ∷ []) i 0 ≡ 2 ^ i
turn_width zero l = refl
turn_width (suc zero) l = refl
turn_width (suc (suc zero)) l = refl
turn_width (suc (suc (suc zero))) l = refl
turn_width (suc (suc (suc (suc zero)))) l = refl
turn_width (suc (suc (suc (suc (suc zero))))) l = refl
turn_width (suc (suc (suc (suc (suc (suc i)))))) l = absurd (omega arith)

-- a turn doubles it
pub turn_next : (i : ℕ) → 2 ^ (i + 1) ≡ 2 ^ i + 2 ^ i
turn_next i = rw (add-one i) (two-pow-succ i)

-- the last turn leaves it as wide as a word
pub turn_last : (i : ℕ) → 6 ≤ i → 64 ≤ 2 ^ i
turn_last i l = pow_mono l
