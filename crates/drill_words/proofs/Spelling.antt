-- The laws of digits: a number, a test and bytes, each from a place of the word on. Assumes nothing.
use mathlib.Core.Path.{◌≡◌, refl, sym, ap, ◌∙◌, subst}
use mathlib.Core.Bool.{Bool, true, false, cond, ◌&&◌}
use mathlib.Core.Logic.{◌⊎◌, inl, inr}
use mathlib.Core.List.{List, [], ◌∷◌}
use Prim.Native.Nat.{ℕ, ◌+◌, ◌*◌, ◌^◌, ◌≤◌, ◌<◌}
use native.Mathlib.Decide.{dec_le, dec_lt}
use native.Mathlib.Omega.{arith}
use lib.Dec.{eqb, ltb}
use lib.Pointwise.{pointwise}
use lib.ListN.{length, get_or, drop, drop_of_length-le}
use borrow.Author.Tests.{lt-ltb, le-ltb, ne_eqb}
use Rattle.std.specs.Prelude.{Option, Some, None, SomeIff, unwrap_or}
use Rattle.std.specs.Char.{digit_value, is_ascii_hexdigit}
use Rattle.std.specs.List.{list_all}
use Rattle.std.proofs.lemmas.Bool.Decides.{nat_tests}
use Rattle.text.proofs.Texts.{drop_next}
use Rattle.drill_words.specs.Digits.{digit_of, spelled_from, number_spelled, is_dash, all_digits, nibble_of, byte_of, bytes_of}

-- a digit's value is std's, where that is below 16

pub digit_cases : (b : ℕ) → ((digit_value b < 16) × (digit_of b ≡ digit_value b)) ⊎ ((16 ≤ digit_value b) × (digit_of b ≡ 16))
unfolding digit_of
digit_cases b = grind (arith, nat_tests)

pub digits_test : (b : ℕ) → is_ascii_hexdigit b ≡ ltb (digit_of b) 16
unfolding digit_of
digits_test b = grind (arith, nat_tests)

pub digits_all : (w : List ℕ) → list_all is_ascii_hexdigit w ≡ all_digits w
unfolding all_digits
digits_all [] = refl
digits_all (b ∷ bs) = rw (digits_test b) (go (ltb (digit_of b) 16) (digits_all bs))
  where
    go : (x : Bool) → list_all is_ascii_hexdigit bs ≡ all_digits bs → (x && list_all is_ascii_hexdigit bs) ≡ cond x (all_digits bs) false
    go true e = e
    go false e = refl

-- the word that is `-`
pub dash_is : (w : List ℕ) → pointwise eqb w (45 ∷ []) ≡ is_dash w
unfolding is_dash
dash_is [] = refl
dash_is (x ∷ []) = go (eqb x 45)
  where
    go : (t : Bool) → (t && true) ≡ t
    go true = refl
    go false = refl
dash_is (x ∷ y ∷ ys) = rw (ne_eqb (length (x ∷ y ∷ ys)) 1 (λ e. omega arith)) (go (eqb x 45))
  where
    go : (t : Bool) → (t && false) ≡ false
    go true = refl
    go false = refl

-- a number

pub number_start : (w : List ℕ) → eqb (length w) 0 ≡ false → spelled_from 0 w ≡ number_spelled w
unfolding number_spelled
number_start w h = rw h

digit_ten : (v : ℕ) → digit_value v < 10 → digit_of v ≡ digit_value v
digit_ten v l = go (digit_cases v)
  where
    go : ((digit_value v < 16) × (digit_of v ≡ digit_value v)) ⊎ ((16 ≤ digit_value v) × (digit_of v ≡ 16)) → digit_of v ≡ digit_value v
    go (inl h) = h.1
    go (inr h) = absurd (omega (arith, h.0))

digit_none : (v : ℕ) → ¬ (digit_value v < 10) → 10 ≤ digit_of v
digit_none v n = go (digit_cases v) (dec_lt (digit_value v) 10)
  where
    go : ((digit_value v < 16) × (digit_of v ≡ digit_value v)) ⊎ ((16 ≤ digit_value v) × (digit_of v ≡ 16)) → Dec (digit_value v < 10) → 10 ≤ digit_of v
    go h (yes l) = absurd (n l)
    go (inl h) (no l) = omega (arith, h.1)
    go (inr h) (no l) = omega (arith, h.1)

module _ (w : List ℕ) (i : ℕ) where
  pub spelled_end : (n : ℕ) → length w ≤ i → Some n ≡ spelled_from n (drop i w)
  unfolding spelled_from
  spelled_end n l = rw (drop_of_length-le w l)

  -- the byte v at that place, and its digit d, of the value
  module _ (l : i < length w) (n v : ℕ) (e : v ≡ get_or w i 0) where
    byte_ten : digit_value v < 10 → digit_of (get_or w i 0) ≡ digit_value v
    byte_ten h = ap digit_of (sym e) ∙ digit_ten v h

    pub spelled_stop : ¬ (digit_value v < 10) → None ≡ spelled_from n (drop i w)
    unfolding spelled_from
    spelled_stop h = let k : 10 ≤ digit_of (get_or w i 0) = subst (λ x. 10 ≤ digit_of x) e (digit_none v h) in rw (drop_next w i l, le-ltb (digit_of (get_or w i 0)) 10 k)

    module _ (d : ℕ) (h : (digit_value v < 10) × (d ≡ digit_value v)) where
      digit : digit_of (get_or w i 0) ≡ d
      digit = byte_ten h.0 ∙ sym h.1

      pub spelled_over : 2 ^ 64 ≤ 10 * n + d → None ≡ spelled_from n (drop i w)
      unfolding spelled_from
      spelled_over o = rw (drop_next w i l, digit, lt-ltb d 10 (omega (arith, h.0, h.1)), le-ltb (10 * n + d) (2 ^ 64) o)

      pub spelled_on : (m : ℕ) → m ≡ 10 * n + d → m < 2 ^ 64 → spelled_from m (drop (i + 1) w) ≡ spelled_from n (drop i w)
      unfolding spelled_from
      spelled_on m p o = rw (drop_next w i l, digit, lt-ltb d 10 (omega (arith, h.0, h.1)), ← p, lt-ltb m (2 ^ 64) o)

module _ (w : List ℕ) (i : ℕ) where
  -- bytes, of two digits each

  pub bytes_end : length w ≤ 2 * i + 1 → bytes_of (drop (2 * i) w) ≡ []
  unfolding bytes_of
  bytes_end l = go (dec_le (length w) (2 * i))
    where
      go : Dec (length w ≤ 2 * i) → bytes_of (drop (2 * i) w) ≡ []
      go (yes h) = rw (drop_of_length-le w h)
      go (no h) = rw (drop_next w (2 * i) (omega arith), drop_of_length-le w {i = 2 * i + 1} l)

  pub bytes_on : 2 * i + 1 < length w → bytes_of (drop (2 * i) w) ≡ byte_of (get_or w (2 * i) 0) (get_or w (2 * i + 1) 0) ∷ bytes_of (drop (2 * (i + 1)) w)
  unfolding bytes_of
  bytes_on l =
      let e : 2 * i + 1 + 1 ≡ 2 * (i + 1) = omega arith in
      rw (drop_next w (2 * i) (omega arith), drop_next w (2 * i + 1) l, e)

-- what std reads of a byte, as a digit
pub nibble_read : (b v : ℕ) (r : Option ℕ) → v ≡ b → SomeIff r (digit_value v < 16) (digit_value v) → (unwrap_or r 0 ≡ nibble_of b) × (unwrap_or r 0 < 16)
unfolding nibble_of
nibble_read b v r e h = rw (← e) (go r h (digit_cases v))
  where
    go : (r : Option ℕ) → SomeIff r (digit_value v < 16) (digit_value v) → ((digit_value v < 16) × (digit_of v ≡ digit_value v)) ⊎ ((16 ≤ digit_value v) × (digit_of v ≡ 16))
        → (unwrap_or r 0 ≡ cond (ltb (digit_of v) 16) (digit_of v) 0) × (unwrap_or r 0 < 16)
    go None h (inl k) = absurd (h k.0)
    go None h (inr k) = (rw k.1, omega arith)
    go (Some x) h (inl k) = (rw (k.1, lt-ltb (digit_value v) 16 k.0) h.1, omega (arith, h.0, h.1))
    go (Some x) h (inr k) = absurd (omega (arith, h.0, k.0))
