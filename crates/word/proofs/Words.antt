-- The word that has given bits: it has them, it fits, and a word with these bits is this one. Assumes nothing.
use mathlib.Core.Path.{◌≡◌, refl, sym, ap, ◌∙◌}
use mathlib.Core.Bool.{Bool, true, false}
use Prim.Native.Nat.{ℕ, zero, suc, ◌+◌, ◌*◌, ◌/◌, ◌%◌, ◌^◌, ◌≤◌, ◌<◌}
use native.Mathlib.Nat.{pow-suc}
use native.Mathlib.Omega.{arith}
use lib.Dec.{lit<}
use Rattle.word.specs.Word.{is_one, val, bit, word_of}
use Rattle.word.proofs.Bits.{bit_zero, bit_suc, bit_high, bits_ext}

pub val_lt : (b : Bool) → val b < 2
val_lt true = omega arith
val_lt false = omega arith

pub one_val : (b : Bool) → is_one (val b) ≡ b
one_val true = refl
one_val false = refl

pub bit_word : (k : ℕ) (f : ℕ → Bool) (t : ℕ) → t < k → bit (word_of k f) t ≡ f t
unfolding word_of
bit_word zero f t l = absurd (omega arith)
bit_word (suc k) f zero l =
    let x : (val (f 0) + 2 * word_of k (λ i. f (suc i))) % 2 ≡ val (f 0) = omega (arith, val_lt (f 0)) in
    bit_zero (word_of (suc k) f) ∙ ap is_one x ∙ one_val (f 0)
bit_word (suc k) f (suc t) l =
    let x : (val (f 0) + 2 * word_of k (λ i. f (suc i))) / 2 ≡ word_of k (λ i. f (suc i)) = omega (arith, val_lt (f 0)) in
    bit_suc (word_of (suc k) f) t ∙ ap (λ w. bit w t) x ∙ bit_word k (λ i. f (suc i)) t (omega arith)

pub word_lt : (k : ℕ) (f : ℕ → Bool) → word_of k f < 2 ^ k
unfolding word_of
word_lt zero f = lit< tt
word_lt (suc k) f = let h = word_lt k (λ i. f (suc i)) in let p : 2 ^ suc k ≡ 2 ^ k * 2 = pow-suc 2 k in omega (arith, val_lt (f 0))

-- past its bits it has none
pub bit_word_past : (k : ℕ) (f : ℕ → Bool) (t : ℕ) → k ≤ t → bit (word_of k f) t ≡ false
bit_word_past k f t l = bit_high k (word_of k f) t (word_lt k f) l

-- a word that has f's bits is f's word
pub is_word : (k : ℕ) (f : ℕ → Bool) (w : ℕ) → w < 2 ^ k → ((t : ℕ) → t < k → bit w t ≡ f t) → w ≡ word_of k f
is_word k f w l h = bits_ext k w (word_of k f) l (word_lt k f) (λ t b. h t b ∙ sym (bit_word k f t b))

pub word_ext : (k : ℕ) (f g : ℕ → Bool) → ((t : ℕ) → t < k → f t ≡ g t) → word_of k f ≡ word_of k g
word_ext k f g h = is_word k g (word_of k f) (word_lt k f) (λ t b. bit_word k f t b ∙ h t b)
