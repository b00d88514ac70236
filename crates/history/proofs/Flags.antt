-- The hazard flag: its four cases in document 01's words, and that they are all there is, since the number of changes is even exactly when
-- the ends are equal. Assumes nothing.
use mathlib.Core.Path.{◌≡◌, refl, sym, ap, ◌∙◌, subst}
use mathlib.Core.Bool.{Bool, true, false, beq, true≢false, false≢true}
use mathlib.Core.Logic.{◌↔◌}
use Prim.Native.Nat.{ℕ, zero, suc, ◌+◌, ◌%◌, ◌≤◌, ◌<◌}
use native.Mathlib.Omega.{arith}
use native.Mathlib.Decide.{ℕ_discrete}
use Rattle.lists.proofs.Bools.{not_both}
use Rattle.word.specs.Word.{val, differ}
use Rattle.word.specs.Times.{count}
use Rattle.word.proofs.Words.{val_lt}
use Rattle.word.proofs.Sets.{count_start, count_last}
use Rattle.rule.specs.Flag.{changed_at, changes, flag_of}
use Rattle.rule.proofs.Flags.{changes_counted, none_is, one_is, many_is}

-- The parity of the changes

one_change_more : (x y b : Bool) (k : ℕ) → k % 2 ≡ val (differ y b) → (val (differ x y) + k) % 2 ≡ val (differ x b)
one_change_more true true true k e = omega arith
one_change_more true true false k e = omega arith
one_change_more true false true k e = omega arith
one_change_more true false false k e = omega arith
one_change_more false true true k e = omega arith
one_change_more false true false k e = omega arith
one_change_more false false true k e = omega arith
one_change_more false false false k e = omega arith

pub parity : (b : Bool) (f : ℕ → Bool) (n : ℕ) → count (changed_at b f) (suc n) % 2 ≡ val (differ (f n) b)
parity b f zero = rw (count_last (changed_at b f) 0, count_start (changed_at b f)) (omega (arith, val_lt (differ (f 0) b)))
parity b f (suc n) = ap (λ k. k % 2) (count_last (changed_at b f) (suc n)) ∙ one_change_more (f (suc n)) (f n) b (count (changed_at b f) (suc n)) (parity b f n)

ends_same : (b x : Bool) (k : ℕ) → k % 2 ≡ val (differ x b) → (k % 2 ≡ 0) ↔ (b ≡ x)
ends_same true true k e = (λ z. refl, λ q. e)
ends_same true false k e = (λ z. absurd (omega arith), λ q. absurd (true≢false q))
ends_same false true k e = (λ z. absurd (omega arith), λ q. absurd (false≢true q))
ends_same false false k e = (λ z. refl, λ q. e)

-- the number of changes is even exactly when the ends are equal
pub even_ends : (b : Bool) (f : ℕ → Bool) → (changes b f % 2 ≡ 0) ↔ (b ≡ f 63)
even_ends b f = ends_same b (f 63) (changes b f) (ap (λ k. k % 2) (changes_counted b f) ∙ parity b f 63)

-- The four cases

-- "Flag 0: none. 1: one. 2, static hazard: two or more, with equal ends. 3, dynamic hazard: three or more, with unequal ends."
abbrev pub Hazard : Bool → (ℕ → Bool) → ℕ → Type 0
Hazard b f zero = changes b f ≡ 0
Hazard b f (suc zero) = changes b f ≡ 1
Hazard b f (suc (suc zero)) = (2 ≤ changes b f) × (b ≡ f 63)
Hazard b f (suc (suc (suc zero))) = (3 ≤ changes b f) × ¬ (b ≡ f 63)
Hazard b f (suc (suc (suc (suc k)))) = ⊥

beq_same : (a b : Bool) → (beq a b ≡ true) ↔ (a ≡ b)
beq_same true true = (λ e. refl, λ e. refl)
beq_same true false = (λ e. sym e, λ e. sym e)
beq_same false true = (λ e. e, λ e. e)
beq_same false false = (λ e. refl, λ e. refl)

module _ (b : Bool) (f : ℕ → Bool) where
  flag_from : (k : ℕ) → Hazard b f k → flag_of b f ≡ k
  flag_from zero e = none_is b f e
  flag_from (suc zero) e = one_is b f (λ z. omega arith) e
  flag_from (suc (suc zero)) h = many_is b f (λ z. omega (arith, h.0)) (λ z. omega (arith, h.0)) true ((beq_same b (f 63)).1 h.1)
  flag_from (suc (suc (suc zero))) h = go (beq b (f 63)) refl
    where
      go : (x : Bool) → beq b (f 63) ≡ x → flag_of b f ≡ 3
      go true e = absurd (h.1 ((beq_same b (f 63)).0 e))
      go false e = many_is b f (λ z. omega (arith, h.0)) (λ z. omega (arith, h.0)) false e
  flag_from (suc (suc (suc (suc k)))) h = absurd h

  -- one of them always holds
  pub some_hazard : (k : ℕ) × Hazard b f k
  some_hazard = go (ℕ_discrete (changes b f) 0) (ℕ_discrete (changes b f) 1)
    where
      many : ¬ (changes b f ≡ 0) → ¬ (changes b f ≡ 1) → (x : Bool) → beq b (f 63) ≡ x → (k : ℕ) × Hazard b f k
      many n m true e = (2, (omega arith, (beq_same b (f 63)).0 e))
      many n m false e =
          let u : ¬ (b ≡ f 63) = λ q. not_both (beq b (f 63)) ((beq_same b (f 63)).1 q) e in
          let odd : ¬ (changes b f % 2 ≡ 0) = λ z. u ((even_ends b f).0 z) in
          (3, (omega arith, u))

      go : Dec (changes b f ≡ 0) → Dec (changes b f ≡ 1) → (k : ℕ) × Hazard b f k
      go (yes e) d = (0, e)
      go (no n) (yes e) = (1, e)
      go (no n) (no m) = many n m (beq b (f 63)) refl

  -- and the flag is its number
  pub flag_is : (k : ℕ) → (flag_of b f ≡ k) ↔ Hazard b f k
  flag_is k = let h = some_hazard in (λ e. subst (Hazard b f) (sym (flag_from h.0 h.1) ∙ e) h.1, flag_from k)

  pub flag_none : (flag_of b f ≡ 0) ↔ (changes b f ≡ 0)
  flag_none = flag_is 0

  pub flag_one : (flag_of b f ≡ 1) ↔ (changes b f ≡ 1)
  flag_one = flag_is 1

  pub flag_static : (flag_of b f ≡ 2) ↔ ((2 ≤ changes b f) × (b ≡ f 63))
  flag_static = flag_is 2

  pub flag_dynamic : (flag_of b f ≡ 3) ↔ ((3 ≤ changes b f) × ¬ (b ≡ f 63))
  flag_dynamic = flag_is 3

  -- these four are all there is
  pub flag_last : flag_of b f < 4
  flag_last = go (flag_of b f) ((flag_is (flag_of b f)).0 refl)
    where
      go : (k : ℕ) → Hazard b f k → k < 4
      go zero h = omega arith
      go (suc zero) h = omega arith
      go (suc (suc zero)) h = omega arith
      go (suc (suc (suc zero))) h = omega arith
      go (suc (suc (suc (suc k)))) h = absurd h
