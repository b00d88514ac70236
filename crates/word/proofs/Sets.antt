-- Sets of times as tests: that equal tests have equal counts, least and largest elements, and what these are. Assumes nothing.
use mathlib.Core.Path.{◌≡◌, refl, sym, ap, ap₂, ◌∙◌, subst}
use mathlib.Core.Bool.{Bool, true, false, cond, ◌&&◌, and-false, false≢true}
use mathlib.Core.Logic.{◌⊎◌, inl, inr, ⊎_elim}
use Prim.Native.Nat.{ℕ, zero, suc, ◌+◌, ◌≤◌, ◌<◌}
use native.Mathlib.Nat.{add-zero, add-suc, le_of_eq, le-suc_iff, eq-or-lt_of_le, lt-suc_self, le_step, not-suc-le-zero, le_of_suc-le-suc}
use native.Mathlib.Numerals.{add-one}
use native.Mathlib.Omega.{arith}
use native.Mathlib.Decide.{dec_lt}
use lib.Arith.{le-zero}
use lib.Dec.{leb, ltb}
use borrow.Author.Tests.{le-leb, lt-leb, leb-true, lt-ltb, le-ltb}
use Rattle.lists.specs.Entries.{from, sum}
use Rattle.lists.proofs.Bools.{and_both}
use Rattle.lists.proofs.Joined.{sum_more}
use Rattle.word.specs.Word.{val}
use Rattle.word.specs.Times.{count, least, greatest, zero_in}
use Rattle.word.proofs.Words.{val_lt}

-- `count`

pub count_cong : (f g : ℕ → Bool) (n : ℕ) → ((t : ℕ) → t < n → f t ≡ g t) → count f n ≡ count g n
unfolding count
count_cong f g zero h = refl
count_cong f g (suc n) h = ap₂ (λ (b : Bool) (c : ℕ). val b + c) (h n (lt-suc_self n)) (count_cong f g n (λ t l. h t (le_step l)))

pub count_le : (f : ℕ → Bool) (n : ℕ) → count f n ≤ n
unfolding count
count_le f zero = omega arith
count_le f (suc n) = let h = count_le f n in omega (arith, val_lt (f n))

-- a smaller set has a smaller count
pub count_within : (f g : ℕ → Bool) (n : ℕ) → ((t : ℕ) → t < n → f t ≡ true → g t ≡ true) → count f n ≤ count g n
unfolding count
count_within f g zero h = omega arith
count_within f g (suc n) h = go (f n) refl (g n) refl (count_within f g n (λ t l. h t (le_step l)))
  where
    go : (a : Bool) → f n ≡ a → (b : Bool) → g n ≡ b → count f n ≤ count g n → val (f n) + count f n ≤ val (g n) + count g n
    go false p b q ih = omega (arith, ap val p)
    go true p true q ih = omega (arith, ap val p, ap val q)
    go true p false q ih = absurd (false≢true (sym q ∙ h n (lt-suc_self n) p))

-- one number more
pub count_more : (f : ℕ → Bool) (n a b : ℕ) → a ≡ count f n → b ≡ val (f n) → a + b ≡ count f (n + 1)
unfolding count
count_more f n a b e h = rw (add-one n) (omega arith)

-- below 0 there is none, and of n + 1 numbers the last is n
pub count_start : (f : ℕ → Bool) → count f 0 ≡ 0
unfolding count
count_start f = refl

pub count_last : (f : ℕ → Bool) (n : ℕ) → count f (suc n) ≡ val (f n) + count f n
unfolding count
count_last f n = refl

-- of a set that has no 0, number by number
pub count_sum : (f : ℕ → Bool) (d : ℕ) → f 0 ≡ false → sum (λ t. val (f t)) (from 1 d) ≡ count f (suc d)
unfolding count
count_sum f zero e = rw e
count_sum f (suc d) e =
    let h = count_sum f d e in
    let x : 1 + d ≡ suc d = omega arith in
    sum_more (λ t. val (f t)) 1 d ∙ rw x (omega arith)

-- of a set that has nothing from d on
pub count_ends : (f : ℕ → Bool) (d k : ℕ) → ((t : ℕ) → d ≤ t → f t ≡ false) → count f (d + k) ≡ count f d
unfolding count
count_ends f d zero h = rw (add-zero d)
count_ends f d (suc k) h = rw (add-suc d k, h (d + k) (omega arith)) (omega (arith, count_ends f d k h))

-- where none is counted none is in the set, and else some is
pub count_none : (f : ℕ → Bool) (n : ℕ) → count f n ≡ 0 → (i : ℕ) → i < n → f i ≡ false
unfolding count
count_none f zero e i l = absurd (omega arith)
count_none f (suc n) e i l = go (dec_lt i n) (f n) refl (count_none f n)
  where
    go : Dec (i < n) → (b : Bool) → f n ≡ b → (count f n ≡ 0 → (j : ℕ) → j < n → f j ≡ false) → f i ≡ false
    go d true q ih = absurd (omega (arith, ap val q))
    go (yes h) false q ih = ih (omega arith) i h
    go (no h) false q ih = let x : i ≡ n = omega arith in ap f x ∙ q

pub count_some : (f : ℕ → Bool) (n : ℕ) → ¬ (count f n ≡ 0) → (i : ℕ) × (i < n) × (f i ≡ true)
unfolding count
count_some f zero h = absurd (h refl)
count_some f (suc n) h = go (f n) refl (count_some f n)
  where
    go : (b : Bool) → f n ≡ b → (¬ (count f n ≡ 0) → (i : ℕ) × (i < n) × (f i ≡ true)) → (i : ℕ) × (i < suc n) × (f i ≡ true)
    go true q ih = (n, omega arith, q)
    go false q ih = let r = ih (λ e. h (omega (arith, ap val q))) in (r.0, omega (arith, r.1), r.2)

-- `least`

pub least_cong : (f g : ℕ → Bool) (n : ℕ) → ((t : ℕ) → f t ≡ g t) → least f n ≡ least g n
unfolding least
least_cong f g zero h = refl
least_cong f g (suc n) h = ap₂ (λ (b : Bool) (c : ℕ). cond b 0 (suc c)) (h 0) (least_cong (λ (i : ℕ). f (suc i)) (λ (i : ℕ). g (suc i)) n (λ t. h (suc t)))

-- it is in the set, and no element is less
pub least_le : (f : ℕ → Bool) (n r : ℕ) → r < n → f r ≡ true → (least f n ≤ r) × (f (least f n) ≡ true)
unfolding least
least_le f zero r l e = absurd (not-suc-le-zero l)
least_le f (suc n) zero l e = (le_of_eq (ap (λ (b : Bool). cond b 0 (suc (least (λ (i : ℕ). f (suc i)) n))) e), ap f (ap (λ (b : Bool). cond b 0 (suc (least (λ (i : ℕ). f (suc i)) n))) e) ∙ e)
least_le f (suc n) (suc r) l e = go (f 0) refl (least_le (λ (i : ℕ). f (suc i)) n r (le_of_suc-le-suc l) e)
  where
    m : ℕ
    m = least (λ (i : ℕ). f (suc i)) n

    go : (b : Bool) → f 0 ≡ b → (m ≤ r) × (f (suc m) ≡ true) → (cond (f 0) 0 (suc m) ≤ suc r) × (f (cond (f 0) 0 (suc m)) ≡ true)
    go true p ih = let q : cond (f 0) 0 (suc m) ≡ 0 = ap (λ (b : Bool). cond b 0 (suc m)) p in (omega arith, ap f q ∙ p)
    go false p ih = let q : cond (f 0) 0 (suc m) ≡ suc m = ap (λ (b : Bool). cond b 0 (suc m)) p in (omega (arith, ih.0), ap f q ∙ ih.1)

-- where nothing is in the set it is the bound
pub least_none : (f : ℕ → Bool) (n : ℕ) → ((s : ℕ) → s < n → f s ≡ false) → least f n ≡ n
unfolding least
least_none f zero h = refl
least_none f (suc n) h =
    ap (λ (b : Bool). cond b 0 (suc (least (λ (i : ℕ). f (suc i)) n))) (h 0 (omega arith)) ∙ ap suc (least_none (λ (i : ℕ). f (suc i)) n (λ s l. h (suc s) (omega arith)))

-- the first of a set at or after a place, and the bound where there is none
pub record First (f : ℕ → Bool) (from n r : ℕ) : Type 0 where
  pub after : from ≤ r
  pub within : r ≤ n
  pub in_set : r < n → f r ≡ true
  pub none_ahead : (u : ℕ) → from ≤ u → u < r → f u ≡ false

least_first : (f : ℕ → Bool) (n : ℕ) → First f 0 n (least f n)
unfolding least
least_first f zero = record { after = omega arith; within = omega arith; in_set = λ l. absurd (omega arith); none_ahead = λ u a l. absurd (omega arith) }
least_first f (suc n) = go (f 0) refl (least_first (λ i. f (suc i)) n)
  where
    m : ℕ
    m = least (λ i. f (suc i)) n

    later : f 0 ≡ false → First (λ i. f (suc i)) 0 n m → (u : ℕ) → u < suc m → f u ≡ false
    later e ih zero l = e
    later e ih (suc u) l = ih.none_ahead u (omega arith) (omega arith)

    go : (b : Bool) → f 0 ≡ b → First (λ i. f (suc i)) 0 n m → First f 0 (suc n) (cond b 0 (suc m))
    go true e ih = record { after = omega arith; within = omega arith; in_set = λ l. e; none_ahead = λ u a l. absurd (omega arith) }
    go false e ih = record { after = omega arith; within = omega (arith, ih.within); in_set = λ l. ih.in_set (omega arith); none_ahead = λ u a l. later e ih u l }

-- a set from a place on is the same from its first element on
pub from_first : (f g : ℕ → Bool) (from n r : ℕ) → First f from n r → ((u : ℕ) → g u ≡ leb from u && f u) → (u : ℕ) → g u ≡ leb r u && f u
from_first f g from n r h e u = e u ∙ go (dec_lt u from) (dec_lt u r)
  where
    go : Dec (u < from) → Dec (u < r) → leb from u && f u ≡ leb r u && f u
    go (yes a) q = ap (λ b. b && f u) (lt-leb from u a ∙ sym (lt-leb r u (omega (arith, h.after))))
    go (no a) (yes b) = ap (λ x. leb from u && x) (h.none_ahead u (omega arith) b) ∙ and-false (leb from u) ∙ ap (λ x. x && f u) (sym (lt-leb r u b))
    go (no a) (no b) = ap (λ x. x && f u) (le-leb from u (omega arith) ∙ sym (le-leb r u (omega arith)))

-- what is left above t of a set from t on
pub above_from : (f g h : ℕ → Bool) (t : ℕ) → ((u : ℕ) → g u ≡ leb t u && f u) → ((u : ℕ) → h u ≡ ltb t u && g u) → (u : ℕ) → h u ≡ leb (t + 1) u && f u
above_from f g h t e d u = d u ∙ ap (λ b. ltb t u && b) (e u) ∙ go (dec_lt t u)
  where
    go : Dec (t < u) → ltb t u && (leb t u && f u) ≡ leb (t + 1) u && f u
    go (yes a) = rw (lt-ltb t u a, le-leb t u (omega arith), le-leb (t + 1) u (omega arith))
    go (no a) = rw (le-ltb t u (omega arith), lt-leb (t + 1) u (omega arith))

-- the least of those that are not below a place is the first from there on
pub next_first : (f g : ℕ → Bool) (from n r : ℕ) → from ≤ n → ((u : ℕ) → g u ≡ leb from u && f u) → r ≡ least g n → First f from n r
next_first f g from n r l h e =
    let r = least_first g n in
    subst (First f from n) (sym e) (record {
      after = go (dec_lt (least g n) n);
      within = r.within;
      in_set = λ a. (both a).1;
      none_ahead = λ u a b. ap (λ x. x && f u) (sym (le-leb from u a)) ∙ sym (h u) ∙ r.none_ahead u (omega arith) b;
    })
  where
    both : least g n < n → (leb from (least g n) ≡ true) × (f (least g n) ≡ true)
    both a = and_both (leb from (least g n)) (f (least g n)) (sym (h (least g n)) ∙ (least_first g n).in_set a)

    go : Dec (least g n < n) → from ≤ least g n
    go (yes a) = leb-true from (least g n) (both a).0
    go (no a) = omega (arith, (least_first g n).within)

-- `greatest`

pub greatest_is : (f : ℕ → Bool) (n none r : ℕ) → r < n → f r ≡ true → ((s : ℕ) → r < s → s < n → f s ≡ false) → greatest f n none ≡ r
unfolding greatest
greatest_is f zero none r l e h = absurd (not-suc-le-zero l)
greatest_is f (suc n) none r l e h =
    ⊎_elim
    (λ (same : r ≡ n). ap (λ (b : Bool). cond b n (greatest f n none)) (ap f (sym same) ∙ e) ∙ sym same)
    (λ (lt : r < n). ap (λ (b : Bool). cond b n (greatest f n none)) (h n lt (lt-suc_self n)) ∙ greatest_is f n none r lt e (λ s p q. h s p (le_step q)))
    (eq-or-lt_of_le (le_of_suc-le-suc l))

pub greatest_none : (f : ℕ → Bool) (n none : ℕ) → ((s : ℕ) → s < n → f s ≡ false) → greatest f n none ≡ none
unfolding greatest
greatest_none f zero none h = refl
greatest_none f (suc n) none h = ap (λ (b : Bool). cond b n (greatest f n none)) (h n (lt-suc_self n)) ∙ greatest_none f n none (λ s l. h s (le_step l))

pub greatest_cong : (f g : ℕ → Bool) (n none : ℕ) → ((t : ℕ) → t < n → f t ≡ g t) → greatest f n none ≡ greatest g n none
unfolding greatest
greatest_cong f g zero none h = refl
greatest_cong f g (suc n) none h = ap₂ (λ (b : Bool) (c : ℕ). cond b n c) (h n (lt-suc_self n)) (greatest_cong f g n none (λ t l. h t (le_step l)))

-- it is in the set, and no element below n is larger
pub greatest_ge : (f : ℕ → Bool) (n none r : ℕ) → r < n → f r ≡ true → (r ≤ greatest f n none) × (greatest f n none < n) × (f (greatest f n none) ≡ true)
unfolding greatest
greatest_ge f zero none r l e = absurd (not-suc-le-zero l)
greatest_ge f (suc n) none r l e = go (f n) refl (eq-or-lt_of_le (le_of_suc-le-suc l)) (λ lt. greatest_ge f n none r lt e)
  where
    m : ℕ
    m = greatest f n none

    go : (b : Bool) → f n ≡ b → (r ≡ n) ⊎ (r < n) → (r < n → (r ≤ m) × (m < n) × (f m ≡ true)) → (r ≤ cond (f n) n m) × (cond (f n) n m < suc n) × (f (cond (f n) n m) ≡ true)
    go true p w rest = let q : cond (f n) n m ≡ n = ap (λ (b : Bool). cond b n m) p in (omega arith, omega arith, ap f q ∙ p)
    go false p (inl same) rest = absurd (false≢true (sym p ∙ ap f (sym same) ∙ e))
    go false p (inr lt) rest =
        let q : cond (f n) n m ≡ m = ap (λ (b : Bool). cond b n m) p in
        let ih = rest lt in
        (omega (arith, ih.0), omega (arith, ih.1), ap f q ∙ ih.2)

-- where a test takes nothing from n up, the greatest below any m from n up is the greatest below n
pub greatest_cut : (f g : ℕ → Bool) (n m none : ℕ) → n ≤ m → ((s : ℕ) → s < n → f s ≡ g s) → ((s : ℕ) → n ≤ s → f s ≡ false) → greatest f m none ≡ greatest g n none
unfolding greatest
greatest_cut f g n zero none l h z = ap (λ (x : ℕ). greatest g x none) (sym (le-zero l))
greatest_cut f g n (suc m) none l h z =
    ⊎_elim
    (λ (lt : n ≤ m). ap (λ (b : Bool). cond b m (greatest f m none)) (z m lt) ∙ greatest_cut f g n m none lt h z)
    (λ (e : n ≡ suc m). subst (λ (x : ℕ). greatest f x none ≡ greatest g n none) e (greatest_cong f g n none h))
    (le-suc_iff.0 l)

-- The inserted 0: with it there is always an element
module _ (f : ℕ → Bool) (n none : ℕ) (some : 0 < n) where
  pub zero_lt : greatest (zero_in f) n none < n
  zero_lt = (greatest_ge (zero_in f) n none 0 some refl).1

  pub zero_in_lem : zero_in f (greatest (zero_in f) n none) ≡ true
  zero_in_lem = (greatest_ge (zero_in f) n none 0 some refl).2

pub zero_cong : (f g : ℕ → Bool) → ((u : ℕ) → f u ≡ g u) → (u : ℕ) → zero_in f u ≡ zero_in g u
zero_cong f g h zero = refl
zero_cong f g h (suc u) = h (suc u)

-- the largest of what lies below t, 0 inserted, in a set of times below n
pub zero_below : (f x : ℕ → Bool) (n t none : ℕ) → 0 < n → 0 < t → ((u : ℕ) → n ≤ u → f u ≡ false) → ((u : ℕ) → x u ≡ zero_in (λ v. ltb v t && f v) u)
    → greatest x n none ≡ greatest (zero_in f) t none
zero_below f x n t none p l low e = go (dec_lt n t)
  where
    below : (u : ℕ) → u < t → x u ≡ zero_in f u
    below zero b = e 0
    below (suc v) b = e (suc v) ∙ ap (λ y. y && f (suc v)) (lt-ltb (suc v) t b)

    past : (u : ℕ) → t ≤ u → x u ≡ false
    past zero b = absurd (omega arith)
    past (suc v) b = e (suc v) ∙ ap (λ y. y && f (suc v)) (le-ltb (suc v) t b)

    high : (u : ℕ) → n ≤ u → zero_in f u ≡ false
    high zero b = absurd (omega arith)
    high (suc v) b = low (suc v) b

    go : Dec (n < t) → greatest x n none ≡ greatest (zero_in f) t none
    go (yes a) = sym (greatest_cut (zero_in f) x n t none (omega arith) (λ u b. sym (below u (omega arith))) high)
    go (no a) = greatest_cut x (zero_in f) t n none (omega arith) below past

-- where 0 answers for an empty set it changes nothing

pub greatest_zero : (f : ℕ → Bool) (n : ℕ) → greatest (zero_in f) n 0 ≡ greatest f n 0
unfolding greatest
greatest_zero f zero = refl
greatest_zero f (suc zero) = go (f 0)
  where
    go : (b : Bool) → ◌≡◌ {A = ℕ} 0 (cond b 0 0)
    go true = refl
    go false = refl
greatest_zero f (suc (suc n)) = ap (λ x. cond (f (suc n)) (suc n) x) (greatest_zero f (suc n))

-- and whatever answers is never asked
pub greatest_zero_any : (f : ℕ → Bool) (n none : ℕ) → greatest (zero_in f) (suc n) none ≡ greatest (zero_in f) (suc n) 0
unfolding greatest
greatest_zero_any f zero none = refl
greatest_zero_any f (suc n) none = ap (λ x. cond (f (suc n)) (suc n) x) (greatest_zero_any f n none)
