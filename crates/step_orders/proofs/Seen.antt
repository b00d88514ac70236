-- The entries of an order, seen one after another: which numbers stand among the first, and whether all fit so far. Assumes nothing.
use mathlib.Core.Path.{◌≡◌, refl, sym, ap, ◌∙◌, subst}
use mathlib.Core.Bool.{Bool, true, false, ◌||◌, and-false, or-false, or-true}
use mathlib.Core.List.Memᴰ
use mathlib.Core.List.{List, [], ◌∷◌, ◌++◌}
use mathlib.Core.Logic.{◌⊎◌, inl, inr}
use Prim.Native.Nat.{ℕ, suc, ◌+◌, ◌≤◌, ◌<◌}
use native.Mathlib.Numerals.{add-one}
use native.Mathlib.Omega.{arith}
use lib.Dec.{eqb, ltb}
use lib.ListN.{length, get_or, set, take, drop, replicate}
use lib.Seq.{take-suc, take-length, split_at}
use borrow.Author.Tests.{eqb-true, eq-eqb, ne_eqb, le-ltb}
use Rattle.lists.specs.Entries.{◌∈◌, some, every, Sorted, Distinct}
use Rattle.lists.specs.Listed.{listed}
use Rattle.lists.proofs.Bools.{not_both}
use Rattle.lists.proofs.Tests.{some_in, some_out, some_append, every_no}
use Rattle.lists.proofs.Listed.{listed_same, listed_set, listed_at}
use Rattle.lists.proofs.Order.{sorted_append, sorted_one, at_in}
use Rattle.step_orders.specs.Orders.{once_each, entries_fit}
use Rattle.step_orders.proofs.Judging.{once_distinct, entries_true}

-- e stands among the first i entries
abbrev pub stands : List ℕ → ℕ → ℕ → Bool
stands order i e = some (λ x. eqb x e) (take i order)

-- an array of marks, one a number
pub marks_none : (order : List ℕ) (n : ℕ) → replicate n false ≡ listed (stands order 0) n
marks_none order n = listed_same false n

module _ (order : List ℕ) (i : ℕ) (l : i < length order) where
  abbrev e : ℕ
  e = get_or order i 0

  one_more : take (i + 1) order ≡ take i order ++ (e ∷ [])
  one_more = rw (add-one i) (take-suc order i 0 l)

  stands_more : (x : ℕ) → stands order (i + 1) x ≡ stands order i x || eqb e x
  stands_more x = ap (some (λ y. eqb y x)) one_more ∙ some_append (λ y. eqb y x) (take i order) (e ∷ []) ∙ ap (λ b. stands order i x || b) (or-false (eqb e x))

  pub marks_more : (n k : ℕ) (marks : List Bool) → k ≡ e → k < n → marks ≡ listed (stands order i) n → set marks k true ≡ listed (stands order (i + 1)) n
  marks_more n k marks q b h =
      ap (λ xs. set xs k true) h
      ∙ listed_set (stands order i) (stands order (i + 1)) n k true b (stands_more k ∙ ap (λ x. stands order i k || x) (eq-eqb e k (sym q)) ∙ or-true (stands order i k))
      (λ j m ne. stands_more j ∙ ap (λ x. stands order i j || x) (ne_eqb e j (λ z. ne (sym z ∙ sym q))) ∙ or-false (stands order i j))

-- in the order of two lists joined
sorted_across : {A : Type 0} (R : A → A → Type 0) (xs ys : List A) → Sorted R (xs ++ ys) → (x y : A) → x ∈ xs → y ∈ ys → R x y
sorted_across R [] ys s x y m n = absurd (Memᴰ.not-nil m)
sorted_across R (z ∷ xs) ys s x y m n = go (Memᴰ.cases_cons m) (sorted_across R xs ys s.1 x y)
  where
    go : (x ≡ z) ⊎ (x ∈ xs) → (x ∈ xs → y ∈ ys → R x y) → R x y
    go (inl q) ih = subst (λ w. R w y) (sym q) (s.0 y (Memᴰ.append_right xs n))
    go (inr h) ih = ih h n

-- the first i entries are steps' numbers, each once, and are marked
pub record Seen (total : ℕ) (order : List ℕ) (marks : List Bool) (i : ℕ) : Type 0 where
  pub marked : marks ≡ listed (stands order i) 4096
  pub below : (e : ℕ) → e ∈ take i order → e < total
  pub once : Distinct (take i order)

module _ (total : ℕ) (order : List ℕ) where
  pub seen_none : Seen total order (replicate 4096 false) 0
  seen_none = record { marked = marks_none order 4096; below = λ e m. absurd (Memᴰ.not-nil m); once = tt }

  pub seen_more : (marks : List Bool) (i k : ℕ) → Seen total order marks i → i < length order → total ≤ 4096 → k ≡ get_or order i 0 → k < total → get_or marks k false ≡ false
      → Seen total order (set marks k true) (i + 1)
  seen_more marks i k s l few q b new = record {
    marked = marks_more order i l 4096 k marks q (omega arith) s.marked;
    below = λ e m. either e (Memᴰ.append_cases (take i order) (subst (λ xs. e ∈ xs) (one_more order i l) m));
    once =
        subst Distinct (sym (one_more order i l))
        (sorted_append (λ x y. ¬ (x ≡ y)) (take i order) (get_or order i 0 ∷ []) s.once (sorted_one (λ x y. ¬ (x ≡ y)) (get_or order i 0))
        (λ x y m n p. fresh x m (p ∙ Memᴰ.eq_of_singleton n ∙ sym q)));
  }
    where
      either : (e : ℕ) → (e ∈ take i order) ⊎ (e ∈ get_or order i 0 ∷ []) → e < total
      either e (inl m) = s.below e m
      either e (inr m) = let z : e ≡ get_or order i 0 = Memᴰ.eq_of_singleton m in omega arith

      unmarked : stands order i k ≡ false
      unmarked = sym (listed_at (stands order i) 4096 k false (omega arith)) ∙ ap (λ xs. get_or xs k false) (sym s.marked) ∙ new

      fresh : (x : ℕ) → x ∈ take i order → ¬ (x ≡ k)
      fresh x m p = not_both (stands order i k) (some_in (λ y. eqb y k) (take i order) x m (eq-eqb x k p)) unmarked

  -- an entry past the list; an entry seen before; none of them
  pub seen_past : (i k : ℕ) → i < length order → k ≡ get_or order i 0 → total ≤ k → false ≡ entries_fit total order
  unfolding entries_fit
  seen_past i k l q h = rw (every_no (λ e. ltb e total) order (get_or order i 0) (at_in order i 0 l) (le-ltb (get_or order i 0) total (omega arith)))

  pub seen_twice : (marks : List Bool) (i k : ℕ) → Seen total order marks i → i < length order → k ≡ get_or order i 0 → k < 4096 → get_or marks k false ≡ true → false ≡ entries_fit total order
  unfolding entries_fit
  seen_twice marks i k s l q b old = rw (twice (once_each order) refl) (sym (and-false (every (λ e. ltb e total) order)))
    where
      marked : stands order i k ≡ true
      marked = sym (listed_at (stands order i) 4096 k false b) ∙ ap (λ xs. get_or xs k false) (sym s.marked) ∙ old

      twice : (o : Bool) → once_each order ≡ o → once_each order ≡ false
      twice false e = e
      twice true e =
          let r = some_out (λ y. eqb y k) (take i order) marked in
          absurd (sorted_across (λ x y. ¬ (x ≡ y)) (take i order) (get_or order i 0 ∷ drop (suc i) order) (subst Distinct (split_at order i 0 l) (once_distinct order e)) r.0 (get_or order i 0) r.1 (Memᴰ.head refl) (eqb-true r.0 k r.2 ∙ q))

  pub seen_all : (marks : List Bool) (i : ℕ) → Seen total order marks i → i ≡ length order → true ≡ entries_fit total order
  seen_all marks i s q =
      let w : take i order ≡ order = ap (λ k. take k order) q ∙ take-length order in
      sym (entries_true total order (λ e m. s.below e (subst (λ xs. e ∈ xs) (sym w) m)) (subst Distinct w s.once))
