-- The hazard flag by its tests, and what the changes and the flag depend on. Assumes nothing.
use mathlib.Core.Path.{◌≡◌, refl, ap₂}
use mathlib.Core.Bool.{Bool, true, false, cond, beq}
use Prim.Native.Nat.{ℕ, zero, suc, ◌<◌}
use native.Mathlib.Omega.{arith}
use lib.Dec.{eqb}
use borrow.Author.Tests.{eq-eqb, ne_eqb}
use Rattle.word.specs.Word.{differ}
use Rattle.word.specs.Times.{count}
use Rattle.word.proofs.Sets.{count_cong}
use Rattle.rule.specs.Flag.{changed_at, changes, flag_of}

-- "Count the changes from the before value through time 63."
pub changes_counted : (b : Bool) (f : ℕ → Bool) → changes b f ≡ count (changed_at b f) 64
unfolding changes
changes_counted b f = refl

-- changes are told by the before value and the values at times 0 to 63
pub changed_cong : (a b : Bool) (f g : ℕ → Bool) → a ≡ b → ((t : ℕ) → t < 64 → f t ≡ g t) → (t : ℕ) → t < 64 → changed_at a f t ≡ changed_at b g t
changed_cong a b f g e h zero l = ap₂ differ (h 0 l) e
changed_cong a b f g e h (suc t) l = ap₂ differ (h (suc t) l) (h t (omega arith))

pub changes_cong : (a b : Bool) (f g : ℕ → Bool) → a ≡ b → ((t : ℕ) → t < 64 → f t ≡ g t) → changes a f ≡ changes b g
unfolding changes
changes_cong a b f g e h = count_cong (changed_at a f) (changed_at b g) 64 (changed_cong a b f g e h)

-- The flag by its tests

module _ (b : Bool) (f : ℕ → Bool) where
  pub none_is : changes b f ≡ 0 → flag_of b f ≡ 0
  unfolding flag_of
  none_is e = rw (eq-eqb (changes b f) 0 e)

  pub one_is : ¬ (changes b f ≡ 0) → changes b f ≡ 1 → flag_of b f ≡ 1
  unfolding flag_of
  one_is n e = rw (ne_eqb (changes b f) 0 n, eq-eqb (changes b f) 1 e)

  pub many_is : ¬ (changes b f ≡ 0) → ¬ (changes b f ≡ 1) → (x : Bool) → beq b (f 63) ≡ x → flag_of b f ≡ cond x 2 3
  unfolding flag_of
  many_is n m x e = rw (ne_eqb (changes b f) 0 n, ne_eqb (changes b f) 1 m, e)

-- The flag is told by the before value and the values at times 0 to 63

pub flag_cong : (a b : Bool) (f g : ℕ → Bool) → a ≡ b → ((t : ℕ) → t < 64 → f t ≡ g t) → flag_of a f ≡ flag_of b g
unfolding flag_of
flag_cong a b f g e h =
    let k = changes_cong a b f g e h in
    let q : beq a (f 63) ≡ beq b (g 63) = ap₂ beq e (h 63 (omega arith)) in
    ap₂ (λ n x. cond (eqb n 0) 0 (cond (eqb n 1) 1 (cond x 2 3))) k q

-- a net that stands still has flag 0
pub flat_flag : (b : Bool) → flag_of b (λ t. b) ≡ 0
unfolding flag_of changes count
flat_flag true = refl
flat_flag false = refl
