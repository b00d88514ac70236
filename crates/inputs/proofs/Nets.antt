-- The nets that are inputs, in their order: net m is the input of its rank, and the other way round. Assumes nothing.
use mathlib.Core.Path.{◌≡◌, refl, sym, ap, subst, ◌∙◌}
use mathlib.Core.List.{List}
use Prim.Native.Nat.{ℕ, zero, suc, ◌+◌, ◌≤◌, ◌<◌}
use native.Mathlib.Omega.{arith}
use native.Mathlib.Decide.{ℕ_discrete, dec_lt}
use native.Mathlib.Numerals.{add-one}
use lib.Dec.{lit<}
use lib.ListN.{length, get_or, set, replicate, length-set, length-replicate, get_or-replicate, get_or-eq_default}
use lib.Seq.{get_or-set_same, get_or-set_other}
use borrow.Author.Tests.{eq-eqb, ne_eqb}
use Rattle.inputs.specs.Inputs.{rank, input_nets}
use Rattle.inputs.proofs.Vectors.{rank_none, rank_input, rank_other, rank_le, rank_below}

module _ (kinds : List ℕ) where
  pub nets_none : replicate 256 0 ≡ input_nets kinds 0
  unfolding input_nets
  nets_none = refl

  nets_next_input : (n : ℕ) → get_or kinds n 0 ≡ 1 → set (input_nets kinds n) (rank kinds n) n ≡ input_nets kinds (suc n)
  unfolding input_nets
  nets_next_input n e = rw (eq-eqb (get_or kinds n 0) 1 e)

  nets_next_other : (n : ℕ) → ¬ (get_or kinds n 0 ≡ 1) → input_nets kinds n ≡ input_nets kinds (suc n)
  unfolding input_nets
  nets_next_other n e = rw (ne_eqb (get_or kinds n 0) 1 e)

  -- one net more
  pub nets_input : (n j : ℕ) (nets : List ℕ) → get_or kinds n 0 ≡ 1 → j ≡ rank kinds n → nets ≡ input_nets kinds n → set nets j n ≡ input_nets kinds (n + 1)
  nets_input n j nets e q h = rw (q, h, add-one n) (nets_next_input n e)

  pub nets_other : (n : ℕ) (nets : List ℕ) → ¬ (get_or kinds n 0 ≡ 1) → nets ≡ input_nets kinds n → nets ≡ input_nets kinds (n + 1)
  nets_other n nets e h = h ∙ nets_next_other n e ∙ ap (input_nets kinds) (sym (add-one n))

  -- what holds of a next net is shown for an input and for another
  by_kind : (P : List ℕ → Type 0) (n : ℕ) → (get_or kinds n 0 ≡ 1 → P (set (input_nets kinds n) (rank kinds n) n)) → (¬ (get_or kinds n 0 ≡ 1) → P (input_nets kinds n)) → P (input_nets kinds (suc n))
  by_kind P n f g = go (ℕ_discrete (get_or kinds n 0) 1)
    where
      go : Dec (get_or kinds n 0 ≡ 1) → P (input_nets kinds (suc n))
      go (yes e) = subst P (nets_next_input n e) (f e)
      go (no e) = subst P (nets_next_other n e) (g e)

  pub length_nets : (n : ℕ) → length (input_nets kinds n) ≡ 256
  length_nets zero = sym (ap length nets_none) ∙ length-replicate {A = ℕ} 256 0
  length_nets (suc n) =
      let h = length_nets n in
      by_kind (λ xs. length xs ≡ 256) n (λ e. length-set (input_nets kinds n) (rank kinds n) n ∙ h) (λ e. h)

  -- the next input's place is there
  rank_room : (n : ℕ) → suc n ≤ 256 → rank kinds n < length (input_nets kinds n)
  rank_room n l = omega (arith, rank_le kinds n, length_nets n)

  -- an input's net stands at its rank
  pub net_at_lem : (n m : ℕ) → n ≤ 256 → m < n → get_or kinds m 0 ≡ 1 → get_or (input_nets kinds n) (rank kinds m) 0 ≡ m
  net_at_lem zero m l b e = absurd (omega arith)
  net_at_lem (suc n) m l b e =
      let before : m < n → get_or (input_nets kinds n) (rank kinds m) 0 ≡ m = λ x. net_at_lem n m (omega arith) x e in
      by_kind (λ xs. get_or xs (rank kinds m) 0 ≡ m) n (λ q. go (ℕ_discrete m n) before) (λ q. before (omega (arith, apart q)))
    where
      apart : ¬ (get_or kinds n 0 ≡ 1) → ¬ (m ≡ n)
      apart q s = q (subst (λ k. get_or kinds k 0 ≡ 1) s e)

      go : Dec (m ≡ n) → (m < n → get_or (input_nets kinds n) (rank kinds m) 0 ≡ m) → get_or (set (input_nets kinds n) (rank kinds n) n) (rank kinds m) 0 ≡ m
      go (yes s) before = rw s (get_or-set_same (input_nets kinds n) (rank kinds n) n 0 (rank_room n l))
      go (no s) before =
          let x : m < n = omega arith in
          get_or-set_other (input_nets kinds n) (rank kinds n) (rank kinds m) n 0 (λ q. omega (arith, q, rank_below kinds m n x e)) ∙ before x

  -- what stands at a place is an input of that rank
  abbrev pub Ranked : ℕ → ℕ → ℕ → Type 0
  Ranked n j m = (m < n) × (get_or kinds m 0 ≡ 1) × (rank kinds m ≡ j)

  pub net_there : (n j : ℕ) → n ≤ 256 → j < rank kinds n → Ranked n j (get_or (input_nets kinds n) j 0)
  net_there zero j l b = absurd (omega (arith, b, rank_none kinds))
  net_there (suc n) j l b =
      let earlier : j < rank kinds n → Ranked (suc n) j (get_or (input_nets kinds n) j 0) = λ x. let h = net_there n j (omega arith) x in (omega (arith, h.0), h.1, h.2) in
      by_kind (λ xs. Ranked (suc n) j (get_or xs j 0)) n (λ e. go e (ℕ_discrete j (rank kinds n)) earlier) (λ e. earlier (omega (arith, b, rank_other kinds n e, ap (rank kinds) (add-one n))))
    where
      go : get_or kinds n 0 ≡ 1 → Dec (j ≡ rank kinds n) → (j < rank kinds n → Ranked (suc n) j (get_or (input_nets kinds n) j 0)) → Ranked (suc n) j (get_or (set (input_nets kinds n) (rank kinds n) n) j 0)
      go e (yes q) earlier =
          let here : get_or (set (input_nets kinds n) (rank kinds n) n) j 0 ≡ n = ap (λ k. get_or (set (input_nets kinds n) (rank kinds n) n) k 0) q ∙ get_or-set_same (input_nets kinds n) (rank kinds n) n 0 (rank_room n l) in
          subst (Ranked (suc n) j) (sym here) (omega arith, e, sym q)
      go e (no q) earlier =
          let x : j < rank kinds n = omega (arith, b, rank_input kinds n e, ap (rank kinds) (add-one n)) in
          subst (Ranked (suc n) j) (sym (get_or-set_other (input_nets kinds n) (rank kinds n) j n 0 (λ s. omega (arith, s, x)))) (earlier x)

  none_low : (j : ℕ) → get_or (replicate 256 0) j 0 < 256
  none_low j = go (dec_lt j 256)
    where
      go : Dec (j < 256) → get_or (replicate 256 0) j 0 < 256
      go (yes l) = rw (get_or-replicate {A = ℕ} 256 j 0 0 l) (lit< tt)
      go (no l) = rw (get_or-eq_default {A = ℕ} (replicate 256 0) 0 {n = j} (omega (arith, length-replicate {A = ℕ} 256 0))) (lit< tt)

  pub nets_low : (n j : ℕ) → n ≤ 256 → get_or (input_nets kinds n) j 0 < 256
  nets_low zero j l = subst (λ xs. get_or xs j 0 < 256) nets_none (none_low j)
  nets_low (suc n) j l =
      let before = nets_low n j (omega arith) in
      by_kind (λ xs. get_or xs j 0 < 256) n (λ e. go (ℕ_discrete j (rank kinds n)) before) (λ e. before)
    where
      go : Dec (j ≡ rank kinds n) → get_or (input_nets kinds n) j 0 < 256 → get_or (set (input_nets kinds n) (rank kinds n) n) j 0 < 256
      go (yes q) before = rw (q, get_or-set_same (input_nets kinds n) (rank kinds n) n 0 (rank_room n l)) (omega arith)
      go (no q) before = rw (get_or-set_other (input_nets kinds n) (rank kinds n) j n 0 (λ s. omega (arith, s, q))) before
