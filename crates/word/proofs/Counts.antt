-- The counts of a word's ones and of its zeros at either end, as the machine gives them, are its bits' count, least and
-- largest. Assumes nothing.
use mathlib.Core.Path.{◌≡◌, refl, sym, ap, ap₂, ◌∙◌, subst}
use mathlib.Core.Bool.{Bool, true, false, cond, ◌&&◌, and-false, and_self}
use Prim.Native.Nat.{ℕ, zero, suc, ◌+◌, ◌-◌, ◌/◌, ◌%◌, ◌^◌, ◌≤◌, ◌<◌}
use native.Mathlib.Nat.{div-eq_of_lt-le, mod-eq_of_lt, mod-lt, zero-lt-suc, pow-suc, not-suc-le-zero, le_of_suc-le-suc}
use native.Mathlib.Omega.{arith}
use native.Mathlib.Numerals.{one-add}
use lib.Arith.{lt-one}
use lib.Pow.{pow_pos, shr_lt, split}
use lib.Bits.{bit_and}
use lib.Dec.{ltb, leb-suc-suc}
use lib.Count.{ones, ones_cat, under, count_leading_zeros, leading_top, count_trailing_zeros}
use borrow.Author.Tests.{lt-ltb, le-ltb}
use Rattle.word.specs.Word.{is_one, val, bit}
use Rattle.word.specs.Times.{count, least, greatest}
use Rattle.word.proofs.Bits.{val_is_one, bit-and, bit_zero, bit_suc, bit_high, bit_mod}
use Rattle.word.proofs.Sets.{count_cong, least_cong, greatest_is}

two_pos : zero < 2
two_pos = zero-lt-suc 1

-- The number of ones is the number of bits

ones_digit : (d : ℕ) → d < 2 → ones d ≡ val (is_one d)
unfolding ones
ones_digit zero h = refl
ones_digit (suc zero) h = refl
ones_digit (suc (suc p)) h = absurd (not-suc-le-zero (le_of_suc-le-suc (le_of_suc-le-suc h)))

pub ones_count : (k w : ℕ) → w < 2 ^ k → ones w ≡ count (bit w) k
unfolding count bit
ones_count zero w h = ap ones (lt-one h) ∙ ones_digit 0 (zero-lt-suc 1)
ones_count (suc k) w h =
    let top : w / 2 ^ k < 2 = shr_lt 1 k (subst (λ (x : ℕ). w < 2 ^ x) (sym (one-add k)) h) in
    ap ones (sym (split w k)) ∙ ones_cat k (w / 2 ^ k) (w % 2 ^ k) (mod-lt w (pow_pos k))
    ∙ ap₂ (λ (x y : ℕ). x + y)
    (ones_digit (w / 2 ^ k) top ∙ ap (λ (x : ℕ). val (is_one x)) (sym (mod-eq_of_lt top)))
    (ones_count k (w % 2 ^ k) (mod-lt w (pow_pos k)) ∙ count_cong (bit (w % 2 ^ k)) (bit w) k (λ t l. bit_mod k w t l))

-- The zeros below the lowest one are the least bit

cond_under : (d a b : ℕ) → d < 2 → a ≡ b → under d a ≡ cond (is_one d) 0 (suc b)
cond_under zero a b h e = ap suc e
cond_under (suc d) a b h e = refl

pub trailing_least : (k w : ℕ) → count_trailing_zeros k w ≡ least (bit w) k
unfolding count_trailing_zeros least
trailing_least zero w = refl
trailing_least (suc k) w =
    cond_under (w % 2) (count_trailing_zeros k (w / 2)) (least (λ (i : ℕ). bit w (suc i)) k) (mod-lt w two_pos)
    (trailing_least k (w / 2) ∙ least_cong (bit (w / 2)) (λ (i : ℕ). bit w (suc i)) k (λ t. sym (bit_suc w t)))
    ∙ ap (λ (b : Bool). cond b 0 (suc (least (λ (i : ℕ). bit w (suc i)) k))) (sym (bit_zero w))

-- All but the lowest one: `w & (w - 1)`

bit_odd : (w : ℕ) → bit w 0 ≡ true → w % 2 ≡ 1
bit_odd w e = sym (val_is_one (w % 2) (mod-lt w two_pos)) ∙ ap val (sym (bit_zero w) ∙ e)

bit_even : (w : ℕ) → bit w 0 ≡ false → w % 2 ≡ 0
bit_even w e = sym (val_is_one (w % 2) (mod-lt w two_pos)) ∙ ap val (sym (bit_zero w) ∙ e)

pub bit_without_least : (k w u : ℕ) → 0 < w → w < 2 ^ k → bit (bit_and w (w - 1)) u ≡ ltb (least (bit w) k) u && bit w u
unfolding least
bit_without_least zero w u p h = absurd (omega arith)
bit_without_least (suc k) w u p h = bit-and w (w - 1) u ∙ go (bit w 0) refl (λ v q l. bit_without_least k (w / 2) v q l) u
  where
    m : ℕ
    m = least (λ i. bit w (suc i)) k

    go : (b : Bool) → bit w 0 ≡ b → ((v : ℕ) → 0 < w / 2 → w / 2 < 2 ^ k → bit (bit_and (w / 2) (w / 2 - 1)) v ≡ ltb (least (bit (w / 2)) k) v && bit (w / 2) v)
        → (u : ℕ) → bit w u && bit (w - 1) u ≡ ltb (cond b 0 (suc m)) u && bit w u
    go true e ih zero =
        let o : (w - 1) % 2 ≡ 0 = omega (arith, bit_odd w e) in
        ap (λ b. bit w 0 && b) (bit_zero (w - 1) ∙ ap is_one o) ∙ and-false (bit w 0)
    go true e ih (suc v) =
        let o : (w - 1) / 2 ≡ w / 2 = omega (arith, bit_odd w e) in
        ap (λ b. bit w (suc v) && b) (bit_suc (w - 1) v ∙ ap (λ x. bit x v) o ∙ sym (bit_suc w v)) ∙ and_self (bit w (suc v))
        ∙ ap (λ b. b && bit w (suc v)) (sym (lt-ltb 0 (suc v) (omega arith)))
    go false e ih zero = ap (λ b. b && bit (w - 1) 0) e ∙ ap (λ b. b && bit w 0) (sym (le-ltb (suc m) 0 (omega arith)))
    go false e ih (suc v) =
        let o : (w - 1) / 2 ≡ w / 2 - 1 = omega (arith, bit_even w e) in
        ap₂ ◌&&◌ (bit_suc w v) (bit_suc (w - 1) v ∙ ap (λ x. bit x v) o)
        ∙ sym (bit-and (w / 2) (w / 2 - 1) v)
        ∙ ih v (omega (arith, bit_even w e)) (omega (arith, pow-suc 2 k))
        ∙ ap₂ (λ n b. ltb n v && b) (least_cong (bit (w / 2)) (λ i. bit w (suc i)) k (λ t. sym (bit_suc w t))) (sym (bit_suc w v))
        ∙ ap (λ b. b && bit w (suc v)) (sym (leb-suc-suc (suc m) v))

-- The zeros above the highest one, that one's place and 1 make the width

bit_top : (w j : ℕ) → 2 ^ j ≤ w → w < 2 ^ suc j → bit w j ≡ true
unfolding bit
bit_top w j l h =
    ap (λ (x : ℕ). is_one (x % 2)) (div-eq_of_lt-le {k = 1} (2 ^ j) (omega (arith, pow-suc 2 j)) (omega (arith, pow-suc 2 j)))

pub leading_greatest : (k w none : ℕ) → 0 < w → w < 2 ^ k → count_leading_zeros k w + suc (greatest (bit w) k none) ≡ k
leading_greatest k w none p h =
    let t = leading_top k w p h in
    let j = t.0 in
    let e : greatest (bit w) k none ≡ j = greatest_is (bit w) k none j (omega (arith, t.1)) (bit_top w j t.2 t.3) (λ s l m. bit_high (suc j) w s t.3 l) in
    ap (λ (x : ℕ). count_leading_zeros k w + suc x) e ∙ t.1
