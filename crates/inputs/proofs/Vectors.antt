-- A vector byte by byte: its bytes fit, and the values that it gives the inputs. Assumes nothing.
use mathlib.Core.Path.{◌≡◌, refl, sym, ap, ◌∙◌}
use mathlib.Core.Bool.{true, false, not}
use mathlib.Core.List.{List}
use Prim.Native.Nat.{ℕ, zero, suc, ◌+◌, ◌-◌, ◌≤◌, ◌<◌}
use native.Mathlib.Omega.{arith}
use lib.Dec.{eqb}
use lib.ListN.{length, get_or}
use borrow.Author.Tests.{eq-eqb, ne_eqb, le-ltb}
use Rattle.lists.specs.Entries.{every}
use Rattle.lists.specs.Listed.{listed}
use Rattle.lists.proofs.Tests.{every_no}
use Rattle.lists.proofs.Listed.{listed_self, in_listed}
use Rattle.word.specs.Word.{is_one, val}
use Rattle.word.proofs.Sets.{count_start, count_le, count_more}
use Rattle.inputs.specs.Inputs.{is_input_kind, rank, given, byte_fits}
use Rattle.inputs.specs.Allowed.{byte_limit}

-- `x != 0`
pub not_zero : (x : ℕ) → not (eqb x 0) ≡ is_one x
not_zero zero = refl
not_zero (suc x) = ap not (ne_eqb (suc x) 0 (λ e. omega arith))

-- Bytes

-- all places seen
pub all_fit_lem : (v : List ℕ) (i : ℕ) → i ≡ length v → every byte_fits (listed (λ k. get_or v k 0) i) ≡ true → every byte_fits v ≡ true
all_fit_lem v i e h = ap (every byte_fits) (listed_self v 0) ∙ ap (λ k. every byte_fits (listed (λ j. get_or v j 0) k)) (sym e) ∙ h

-- a byte that is neither 0 nor 1
pub one_unfit : (v : List ℕ) (i : ℕ) → i < length v → byte_limit ≤ get_or v i 0 → every byte_fits v ≡ false
one_unfit v i l h =
    ap (every byte_fits) (listed_self v 0)
    ∙ every_no byte_fits (listed (λ k. get_or v k 0) (length v)) (get_or v i 0) (in_listed (λ k. get_or v k 0) (length v) i l) (le-ltb (get_or v i 0) byte_limit h)

-- Inputs

module _ (kinds : List ℕ) where
  pub rank_none : rank kinds 0 ≡ 0
  unfolding rank
  rank_none = count_start (λ m. is_input_kind (get_or kinds m 0))

  rank_step : (n : ℕ) → rank kinds n + val (is_input_kind (get_or kinds n 0)) ≡ rank kinds (n + 1)
  unfolding rank
  rank_step n = count_more (λ m. is_input_kind (get_or kinds m 0)) n _ _ refl refl

  pub rank_input : (n : ℕ) → get_or kinds n 0 ≡ 1 → rank kinds n + 1 ≡ rank kinds (n + 1)
  rank_input n e = ap (λ b. rank kinds n + val b) (sym (eq-eqb (get_or kinds n 0) 1 e)) ∙ rank_step n

  pub rank_other : (n : ℕ) → ¬ (get_or kinds n 0 ≡ 1) → rank kinds n ≡ rank kinds (n + 1)
  rank_other n e =
      let x : rank kinds n ≡ rank kinds n + 0 = omega arith in
      x ∙ ap (λ b. rank kinds n + val b) (sym (ne_eqb (get_or kinds n 0) 1 e)) ∙ rank_step n

  pub rank_le : (n : ℕ) → rank kinds n ≤ n
  unfolding rank
  rank_le n = count_le (λ m. is_input_kind (get_or kinds m 0)) n

  rank_grows : (n k : ℕ) → rank kinds n ≤ rank kinds (n + k)
  rank_grows n zero = let e : n + 0 ≡ n = omega arith in rw e (omega arith)
  rank_grows n (suc k) =
      let e : n + suc k ≡ (n + k) + 1 = omega arith in
      rw e (omega (arith, rank_grows n k, rank_step (n + k)))

  pub rank_up : (n m : ℕ) → n ≤ m → rank kinds n ≤ rank kinds m
  rank_up n m l = let e : n + (m - n) ≡ m = omega arith in let h = rank_grows n (m - n) in rw e at h

  -- an input has a byte in every vector as long as there are inputs
  pub rank_below : (n m : ℕ) → n < m → get_or kinds n 0 ≡ 1 → rank kinds n < rank kinds m
  rank_below n m l e =
      let x : (n + 1) + (m - (n + 1)) ≡ m = omega arith in
      let h : rank kinds n < rank kinds ((n + 1) + (m - (n + 1))) = omega (arith, rank_input n e, rank_grows (n + 1) (m - (n + 1))) in
      rw x at h

  module _ (v : List ℕ) where
    pub given_input : (n j : ℕ) → get_or kinds n 0 ≡ 1 → j ≡ rank kinds n → not (eqb (get_or v j 0) 0) ≡ given kinds v n
    unfolding given
    given_input n j e q = rw (q, eq-eqb (get_or kinds n 0) 1 e) (not_zero (get_or v (rank kinds n) 0))

    pub given_other : (n : ℕ) → ¬ (get_or kinds n 0 ≡ 1) → false ≡ given kinds v n
    unfolding given
    given_other n e = rw (ne_eqb (get_or kinds n 0) 1 e)
