-- The laws of `bit`: of and, or, xor, not, the shifts and masks on words, and that a word is its bits. Assumes nothing.
use mathlib.Core.Path.{◌≡◌, refl, sym, ap, ap₂, ◌∙◌}
use mathlib.Core.Bool.{cond, and-true, and-false, and_comm, Bool, true, false, not, ◌&&◌, ◌||◌, or-false, or-true}
use Prim.Native.Nat.{ℕ, zero, suc, ◌+◌, ◌-◌, ◌*◌, ◌/◌, ◌%◌, ◌^◌, ◌≤◌, ◌<◌, min, max, zero-le, suc-le-suc}
use native.Mathlib.Nat.{one-mul, mul-div_cancel, mul-mod_left, mod-eq_of_lt, mod-lt, zero-lt-suc, pow-suc, not-suc-le-zero, div-add-mod', le_of_suc-le-suc}
use native.Mathlib.Omega.{arith}
use Rattle.std.specs.Int.{bit_at}
use Rattle.std.proofs.lemmas.Nat.Bits.{bit_at_and, bit_at_or, bit_at_xor, bit_at-suc, bit_at_lowest, bit_at_above, bit_at-zero, bit_at-lt, bit_at_cat_low, same_from_bits_below, shr_and_one, bit_at_ones, bit_at-pow_same, bit_at-pow_other}
use lib.Pow.{pow_pos, pow-lt, shl-shr, shr-shr}
use lib.Bits.{bit_and, bit_or, bit_xor, and_mask, mask_lt}
use mir.Val.{bool_byte}
use lib.Dec.{eqb, leb, ltb, lit<}
use borrow.Author.Tests.{eq-eqb, ne_eqb, le-leb, lt-leb, lt-ltb, le-ltb}
use native.Mathlib.Decide.{ℕ_discrete, dec_lt}
use Rattle.word.specs.Word.{is_one, val, differ, bit, moved_up}
use Rattle.word.specs.Times.{zero_in}

-- A digit below 2

two_pos : zero < 2
two_pos = zero-lt-suc 1

-- is the digit of its bool
pub val_is_one : (p : ℕ) → p < 2 → val (is_one p) ≡ p
val_is_one zero h = refl
val_is_one (suc zero) h = refl
val_is_one (suc (suc p)) h = absurd (not-suc-le-zero (le_of_suc-le-suc (le_of_suc-le-suc h)))

-- And, or, xor: the library's laws of digits, by their four cases

digits : (P : ℕ → ℕ → Type 0) → P 0 0 → P 0 1 → P 1 0 → P 1 1 → (p q : ℕ) → p < 2 → q < 2 → P p q
digits P a b c d zero zero hp hq = a
digits P a b c d zero (suc zero) hp hq = b
digits P a b c d (suc zero) zero hp hq = c
digits P a b c d (suc zero) (suc zero) hp hq = d
digits P a b c d zero (suc (suc q)) hp hq = absurd (omega arith)
digits P a b c d (suc zero) (suc (suc q)) hp hq = absurd (omega arith)
digits P a b c d (suc (suc p)) q hp hq = absurd (omega arith)

pub bit-and : (a b t : ℕ) → bit (bit_and a b) t ≡ bit a t && bit b t
unfolding bit
bit-and a b t =
    ap is_one (bit_at_and a b t) ∙ digits (λ p q. is_one (min p q) ≡ is_one p && is_one q) refl refl refl refl (bit_at a t) (bit_at b t) (bit_at-lt a t) (bit_at-lt b t)

pub bit-or : (a b t : ℕ) → bit (bit_or a b) t ≡ bit a t || bit b t
unfolding bit
bit-or a b t =
    ap is_one (bit_at_or a b t) ∙ digits (λ p q. is_one (max p q) ≡ is_one p || is_one q) refl refl refl refl (bit_at a t) (bit_at b t) (bit_at-lt a t) (bit_at-lt b t)

pub bit-xor : (a b t : ℕ) → bit (bit_xor a b) t ≡ differ (bit a t) (bit b t)
unfolding bit
bit-xor a b t =
    ap is_one (bit_at_xor a b t) ∙ digits (λ p q. is_one ((p + q) % 2) ≡ differ (is_one p) (is_one q)) refl refl refl refl (bit_at a t) (bit_at b t) (bit_at-lt a t) (bit_at-lt b t)

-- Down a digit

pub bit_suc : (w t : ℕ) → bit w (suc t) ≡ bit (w / 2) t
unfolding bit
bit_suc w t = ap is_one (bit_at-suc w t)

pub bit_zero : (w : ℕ) → bit w 0 ≡ is_one (w % 2)
unfolding bit
bit_zero w = ap is_one (bit_at_lowest w)

-- a word below 2 ^ k has no bit at k or above
pub bit_high : (k w t : ℕ) → w < 2 ^ k → k ≤ t → bit w t ≡ false
unfolding bit
bit_high k w t h l = ap is_one (bit_at_above w k t h l)

-- no bit of 0 is one
pub bit_none : (t : ℕ) → bit 0 t ≡ false
unfolding bit
bit_none t = ap is_one (bit_at-zero t)

-- Shifts, and cutting off

pub bit_shr : (w s t : ℕ) → bit (w / 2 ^ s) t ≡ bit w (s + t)
unfolding bit
bit_shr w s t = ap (λ (x : ℕ). is_one (x % 2)) (shr-shr w s t)

is_one_sub : (d : ℕ) → d < 2 → is_one (1 - d) ≡ not (is_one d)
is_one_sub zero h = refl
is_one_sub (suc zero) h = refl
is_one_sub (suc (suc p)) h = absurd (omega arith)

-- the k low bits
pub bit_mod : (k w t : ℕ) → t < k → bit (w % 2 ^ k) t ≡ bit w t
unfolding bit
bit_mod k w t l = ap is_one (sym (bit_at_cat_low (w / 2 ^ k) k (w % 2 ^ k) t l) ∙ ap (λ x. bit_at x t) (div-add-mod' w (2 ^ k)))

-- A word is its bits

is_one_inj : (p q : ℕ) → p < 2 → q < 2 → is_one p ≡ is_one q → p ≡ q
is_one_inj p q hp hq e = sym (val_is_one p hp) ∙ ap val e ∙ val_is_one q hq

pub bits_ext : (k a b : ℕ) → a < 2 ^ k → b < 2 ^ k → ((t : ℕ) → t < k → bit a t ≡ bit b t) → a ≡ b
unfolding bit
bits_ext k a b ha hb f = same_from_bits_below k a b ha hb (λ t l. is_one_inj (bit_at a t) (bit_at b t) (bit_at-lt a t) (bit_at-lt b t) (f t l))

-- the complement in k bits
pub bit_not : (k w t : ℕ) → w < 2 ^ k → t < k → bit ((2 ^ k - 1) - w) t ≡ not (bit w t)
bit_not zero w t h l = absurd (omega arith)
bit_not (suc k) w zero h l =
    let e : ((2 ^ suc k - 1) - w) % 2 ≡ 1 - w % 2 = omega (arith, pow-suc 2 k) in
    bit_zero ((2 ^ suc k - 1) - w) ∙ ap is_one e ∙ is_one_sub (w % 2) (mod-lt w two_pos) ∙ ap not (sym (bit_zero w))
bit_not (suc k) w (suc t) h l =
    let e : ((2 ^ suc k - 1) - w) / 2 ≡ (2 ^ k - 1) - w / 2 = omega (arith, pow-suc 2 k) in
    bit_suc ((2 ^ suc k - 1) - w) t ∙ ap (λ (x : ℕ). bit x t) e
    ∙ bit_not k (w / 2) t (omega (arith, pow-suc 2 k)) (omega arith) ∙ ap not (sym (bit_suc w t))

-- Up by one, with the bit that leaves the word dropped: `w << 1`

pub bit_up : (k w t : ℕ) → suc t < k → bit ((w * 2) % 2 ^ k) (suc t) ≡ bit w t
bit_up k w t l =
    bit_mod k (w * 2) (suc t) l ∙ bit_suc (w * 2) t ∙ ap (λ (x : ℕ). bit x t) (mul-div_cancel w two_pos)

pub bit_up_zero : (k w : ℕ) → 0 < k → bit ((w * 2) % 2 ^ k) 0 ≡ false
bit_up_zero k w l = bit_mod k (w * 2) 0 l ∙ bit_zero (w * 2) ∙ ap is_one (mul-mod_left w 2)

-- up by s: t stands at s + t
pub bit_shl : (k w s t : ℕ) → s + t < k → bit ((w * 2 ^ s) % 2 ^ k) (s + t) ≡ bit w t
bit_shl k w s t l =
    bit_mod k (w * 2 ^ s) (s + t) l ∙ sym (bit_shr (w * 2 ^ s) s t) ∙ ap (λ (x : ℕ). bit x t) (shl-shr w s)

-- A mask of the t low bits

pub bit_mask_below : (w t s : ℕ) → s < t → bit (bit_and w (2 ^ t - 1)) s ≡ bit w s
bit_mask_below w t s l = ap (λ (x : ℕ). bit x s) (and_mask w t) ∙ bit_mod t w s l

pub bit_mask_above : (w t s : ℕ) → t ≤ s → bit (bit_and w (2 ^ t - 1)) s ≡ false
bit_mask_above w t s l = bit_high t (bit_and w (2 ^ t - 1)) s (mask_lt w t) l

-- The tests and masks that the code writes

eqb_is_one : (d : ℕ) → d < 2 → eqb d 1 ≡ is_one d
eqb_is_one zero h = refl
eqb_is_one (suc zero) h = refl
eqb_is_one (suc (suc p)) h = absurd (omega arith)

-- `(w >> t) & 1 == 1`
pub test_bit : (w t : ℕ) → eqb (bit_and (w / 2 ^ t) 1) 1 ≡ bit w t
unfolding bit
test_bit w t = ap (λ (x : ℕ). eqb x 1) (shr_and_one w t) ∙ eqb_is_one (bit_at w t) (bit_at-lt w t)

-- `1 << t`
pub one_shl : (k t : ℕ) → t < k → (1 * 2 ^ t) % 2 ^ k ≡ 2 ^ t
one_shl k t l = ap (λ (x : ℕ). x % 2 ^ k) (one-mul (2 ^ t)) ∙ mod-eq_of_lt (pow-lt l)

-- a bool as a word: `b as u64`
pub bool_lt : (b : Bool) → bool_byte b < 2
bool_lt true = lit< tt
bool_lt false = lit< tt

pub bit_bool : (b : Bool) → bit (bool_byte b) 0 ≡ b
unfolding bit
bit_bool true = refl
bit_bool false = refl

-- `(x << 1) | (low as u64)`
pub bit_moved_up : (k x : ℕ) (low : Bool) (t : ℕ) → t < k → bit (bit_or ((x * 2) % 2 ^ k) (bool_byte low)) t ≡ moved_up low (bit x) t
bit_moved_up k x low zero l =
    bit-or ((x * 2) % 2 ^ k) (bool_byte low) 0 ∙ ap₂ ◌||◌ (bit_up_zero k x l) (bit_bool low)
bit_moved_up k x low (suc t) l =
    bit-or ((x * 2) % 2 ^ k) (bool_byte low) (suc t)
    ∙ ap₂ ◌||◌ (bit_up k x t l) (bit_high 1 (bool_byte low) (suc t) (bool_lt low) (suc-le-suc zero-le))
    ∙ or-false (bit x t)

-- `w << 1`, with nothing in bit 0
pub bit_raised : (k w t : ℕ) → t < k → bit ((w * 2) % 2 ^ k) t ≡ moved_up false (bit w) t
bit_raised k w zero l = bit_up_zero k w l
bit_raised k w (suc t) l = bit_up k w t l

-- `w | 1`
pub bit_with_zero : (w t : ℕ) → bit (bit_or w 1) t ≡ zero_in (bit w) t
bit_with_zero w zero = bit-or w 1 0 ∙ ap (λ b. bit w 0 || b) (bit_bool true) ∙ or-true (bit w 0)
bit_with_zero w (suc t) = bit-or w 1 (suc t) ∙ ap (λ b. bit w (suc t) || b) (bit_high 1 1 (suc t) (lit< tt) (suc-le-suc zero-le)) ∙ or-false (bit w (suc t))

-- every bit of the largest word is one
pub bit_ones : (k t : ℕ) → t < k → bit (2 ^ k - 1) t ≡ true
unfolding bit
bit_ones k t l = ap is_one (bit_at_ones k t l)

pub bit_below : (w t u : ℕ) → bit (bit_and w (2 ^ t - 1)) u ≡ ltb u t && bit w u
bit_below w t u = go (dec_lt u t)
  where
    go : Dec (u < t) → bit (bit_and w (2 ^ t - 1)) u ≡ ltb u t && bit w u
    go (yes a) = bit_mask_below w t u a ∙ ap (λ b. b && bit w u) (sym (lt-ltb u t a))
    go (no a) = bit_mask_above w t u (omega arith) ∙ ap (λ b. b && bit w u) (sym (le-ltb u t (omega arith)))

pub all_below : (k w t u : ℕ) → w < 2 ^ k → k ≤ t → bit w u ≡ ltb u t && bit w u
all_below k w t u h l = go (dec_lt u t)
  where
    go : Dec (u < t) → bit w u ≡ ltb u t && bit w u
    go (yes a) = ap (λ b. b && bit w u) (sym (lt-ltb u t a))
    go (no a) = bit_high k w u h (omega arith) ∙ ap (λ b. b && bit w u) (sym (le-ltb u t (omega arith)))

-- All but the t low bits

-- where t is past a word of k bits, it has none
pub past_none : (k w t u : ℕ) → w < 2 ^ k → k ≤ t → leb t u && bit w u ≡ false
past_none k w t u h l = go (dec_lt u t)
  where
    go : Dec (u < t) → leb t u && bit w u ≡ false
    go (yes a) = ap (λ b. b && bit w u) (lt-leb t u a)
    go (no a) = rw (bit_high k w u h (omega arith), and-false)

pub bit_mask_from : (k w t u : ℕ) → t < k → w < 2 ^ k → bit (bit_and w ((2 ^ k - 1) - (2 ^ t - 1))) u ≡ leb t u && bit w u
bit_mask_from k w t u l h = bit-and w ((2 ^ k - 1) - (2 ^ t - 1)) u ∙ and_comm (bit w u) _ ∙ go (dec_lt u t) (dec_lt u k)
  where
    mask : 2 ^ t - 1 < 2 ^ k
    mask = omega (arith, pow_pos t, pow-lt {i = t} {j = k} l)

    go : Dec (u < t) → Dec (u < k) → bit ((2 ^ k - 1) - (2 ^ t - 1)) u && bit w u ≡ leb t u && bit w u
    go (yes a) q = ap (λ b. b && bit w u) (bit_not k (2 ^ t - 1) u mask (omega arith) ∙ ap not (bit_ones t u a) ∙ sym (lt-leb t u a))
    go (no a) (yes b) =
        ap (λ x. x && bit w u) (bit_not k (2 ^ t - 1) u mask b ∙ ap not (bit_high t (2 ^ t - 1) u (omega (arith, pow_pos t)) (omega arith)) ∙ sym (le-leb t u (omega arith)))
    go (no a) (no b) = rw (bit_high k w u h (omega arith), and-false, and-false)

-- One bit put into a word

bit_pow_same : (t : ℕ) → bit (2 ^ t) t ≡ true
unfolding bit
bit_pow_same t = ap is_one (bit_at-pow_same t)

bit_pow_other : (t u : ℕ) → ¬ (u ≡ t) → bit (2 ^ t) u ≡ false
unfolding bit
bit_pow_other t u n = ap is_one (bit_at-pow_other t u n)

-- `w | (1 << t)`
pub bit_put_one : (w t u : ℕ) → bit (bit_or w (2 ^ t)) u ≡ cond (eqb u t) true (bit w u)
bit_put_one w t u = go (ℕ_discrete u t)
  where
    go : Dec (u ≡ t) → bit (bit_or w (2 ^ t)) u ≡ cond (eqb u t) true (bit w u)
    go (yes e) = bit-or w (2 ^ t) u ∙ rw (e, bit_pow_same t, eq-eqb t t refl) (or-true (bit w t))
    go (no n) = bit-or w (2 ^ t) u ∙ rw (bit_pow_other t u n, ne_eqb u t n) (or-false (bit w u))

-- `w & !(1 << t)`, in k bits
pub bit_put_none : (k w t u : ℕ) → t < k → u < k → bit (bit_and w ((2 ^ k - 1) - 2 ^ t)) u ≡ cond (eqb u t) false (bit w u)
bit_put_none k w t u h l = bit-and w ((2 ^ k - 1) - 2 ^ t) u ∙ ap (λ b. bit w u && b) (bit_not k (2 ^ t) u (pow-lt h) l) ∙ go (ℕ_discrete u t)
  where
    go : Dec (u ≡ t) → (bit w u && not (bit (2 ^ t) u)) ≡ cond (eqb u t) false (bit w u)
    go (yes e) = rw (e, bit_pow_same t, eq-eqb t t refl) (and-false (bit w t))
    go (no n) = rw (bit_pow_other t u n, ne_eqb u t n) (and-true (bit w u))
