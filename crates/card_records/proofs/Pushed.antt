-- One net more on a card that is laid out in arrays: a store in each of the first three, and its pins laid at its 8 places. Assumes nothing.
use mathlib.Core.Path.{◌≡◌, refl, sym, ap, ◌∙◌}
use mathlib.Core.Bool.{false, cond}
use mathlib.Core.List.{List, [], ◌∷◌, ◌++◌}
use Prim.Native.Nat.{ℕ, zero, suc, ◌+◌, ◌*◌, ◌/◌, ◌%◌, ◌≤◌, ◌<◌}
use native.Mathlib.Omega.{arith}
use native.Mathlib.Decide.{ℕ_discrete, dec_lt}
use lib.Dec.{ltb}
use lib.ListN.{length, get_or, set, length-append, length-set, get_or-append, get_or-eq_default}
use lib.Seq.{get_or-append_seam, get_or-set_same, get_or-set_other}
use borrow.Author.Tests.{lt-ltb, le-ltb}
use Rattle.lists.specs.Listed.{listed}
use Rattle.lists.proofs.Listed.{listed_at, listed_past, listed_set, is_listed, length_listed}
use Rattle.rule.specs.Net.{Net, constant, net_at, pins_of, pins}
use Rattle.rule.proofs.Nets.{net_here, past_source, source_pins}
use Rattle.card_wiring.specs.Layout.{kind_of, type_of, kinds_of, types_of, counts_of, places_of}
use Rattle.card_records.specs.Inner.Reading.{laid}

-- Values laid one after another in a list

module _ (xs : List ℕ) (a : ℕ) (f : ℕ → ℕ) where
  length_laid : (m : ℕ) → length (laid xs a f m) ≡ length xs
  length_laid zero = refl
  length_laid (suc m) = length-set (laid xs a f m) (a + m) (f m) ∙ length_laid m

  laid_outside : (m k : ℕ) → ((j : ℕ) → j < m → ¬ (k ≡ a + j)) → get_or (laid xs a f m) k 0 ≡ get_or xs k 0
  laid_outside zero k h = refl
  laid_outside (suc m) k h =
      get_or-set_other (laid xs a f m) (a + m) k (f m) 0 (h m (omega arith)) ∙ laid_outside m k (λ j l. h j (omega arith))

  laid_inside : (m j : ℕ) → j < m → a + m ≤ length xs → get_or (laid xs a f m) (a + j) 0 ≡ f j
  laid_inside zero j l b = absurd (omega arith)
  laid_inside (suc m) j l b = go (ℕ_discrete j m) (laid_inside m j)
    where
      go : Dec (j ≡ m) → (j < m → a + m ≤ length xs → get_or (laid xs a f m) (a + j) 0 ≡ f j) → get_or (set (laid xs a f m) (a + m) (f m)) (a + j) 0 ≡ f j
      go (yes e) ih = rw e (get_or-set_same (laid xs a f m) (a + m) (f m) 0 (omega (arith, length_laid m)))
      go (no e) ih = get_or-set_other (laid xs a f m) (a + m) (a + j) (f m) 0 (λ q. e (omega arith)) ∙ ih (omega arith) (omega arith)

-- One net more

module _ (c : List Net) (w : Net) (few : length c < 256) where
  last_net : net_at (c ++ (w ∷ [])) (length c) ≡ w
  last_net = net_here (c ++ (w ∷ [])) (length c) (omega arith) ∙ get_or-append_seam c w [] (constant false)

  other_net : (n : ℕ) → n < 256 → ¬ (n ≡ length c) → net_at (c ++ (w ∷ [])) n ≡ net_at c n
  other_net n b q = net_here (c ++ (w ∷ [])) n (omega arith) ∙ go (dec_lt n (length c)) ∙ sym (net_here c n (omega arith))
    where
      go : Dec (n < length c) → get_or (c ++ (w ∷ [])) n (constant false) ≡ get_or c n (constant false)
      go (yes l) = get_or-append c (w ∷ []) (constant false) n l
      go (no l) =
          let far : length (c ++ (w ∷ [])) ≤ n = omega (arith, length-append c (w ∷ [])) in
          let past : length c ≤ n = omega arith in
          get_or-eq_default (c ++ (w ∷ [])) (constant false) far ∙ sym (get_or-eq_default c (constant false) past)

  -- a number of each net, and 0 past the card
  push_field : (f : Net → ℕ) → set (listed (λ n. cond (ltb n (length c)) (f (net_at c n)) 0) 256) (length c) (f w)
      ≡ listed (λ n. cond (ltb n (length (c ++ (w ∷ [])))) (f (net_at (c ++ (w ∷ [])) n)) 0) 256
  push_field f = listed_set _ _ 256 (length c) (f w) few (rw (length-append c (w ∷ []), lt-ltb (length c) (length c + 1) (omega arith), last_net)) other
    where
      other : (n : ℕ) → n < 256 → ¬ (n ≡ length c)
          → cond (ltb n (length (c ++ (w ∷ [])))) (f (net_at (c ++ (w ∷ [])) n)) 0 ≡ cond (ltb n (length c)) (f (net_at c n)) 0
      other n b q = rw (length-append c (w ∷ []), other_net n b q) (go (dec_lt n (length c)))
        where
          go : Dec (n < length c) → cond (ltb n (length c + 1)) (f (net_at c n)) 0 ≡ cond (ltb n (length c)) (f (net_at c n)) 0
          go (yes l) = rw (lt-ltb n (length c) l, lt-ltb n (length c + 1) (omega arith))
          go (no l) = rw (le-ltb n (length c) (omega arith), le-ltb n (length c + 1) (omega arith))

  pub push_kinds : (kind : ℕ) → kind_of w ≡ kind → set (kinds_of c) (length c) kind ≡ kinds_of (c ++ (w ∷ []))
  unfolding kinds_of
  push_kinds kind e = rw (← e) (push_field kind_of)

  pub push_types : (ty : ℕ) → type_of w ≡ ty → set (types_of c) (length c) ty ≡ types_of (c ++ (w ∷ []))
  unfolding types_of
  push_types ty e = rw (← e) (push_field type_of)

  pub push_counts : (f : ℕ → ℕ) (m : ℕ) → pins_of w ≡ listed f m → set (counts_of c) (length c) m ≡ counts_of (c ++ (w ∷ []))
  unfolding counts_of
  push_counts f m e = listed_set _ _ 256 (length c) m few (rw (last_net, e) (length_listed f m)) (λ n b q. rw (other_net n b q))

  pub push_places : (f : ℕ → ℕ) (m : ℕ) → m ≤ 8 → pins_of w ≡ listed f m → laid (places_of c) (length c * 8) f m ≡ places_of (c ++ (w ∷ []))
  unfolding places_of
  push_places f m narrow e = is_listed _ 2048 0 (laid (places_of c) (length c * 8) f m) (length_laid (places_of c) (length c * 8) f m ∙ length_listed _ 2048) at
    where
      at : (k : ℕ) → k < 2048 → get_or (laid (places_of c) (length c * 8) f m) k 0 ≡ get_or (pins (c ++ (w ∷ [])) (k / 8)) (k % 8) 0
      at k b = go (ℕ_discrete (k / 8) (length c)) (dec_lt (k % 8) m)
        where
          old : ((j : ℕ) → j < m → ¬ (k ≡ length c * 8 + j)) → get_or (laid (places_of c) (length c * 8) f m) k 0 ≡ get_or (pins c (k / 8)) (k % 8) 0
          old h = laid_outside (places_of c) (length c * 8) f m k h ∙ listed_at _ 2048 k 0 b

          go : Dec (k / 8 ≡ length c) → Dec (k % 8 < m) → get_or (laid (places_of c) (length c * 8) f m) k 0 ≡ get_or (pins (c ++ (w ∷ [])) (k / 8)) (k % 8) 0
          go (yes q) (yes l) =
              let x : length c * 8 + k % 8 ≡ k = omega arith in
              ap (λ i. get_or (laid (places_of c) (length c * 8) f m) i 0) (sym x)
              ∙ laid_inside (places_of c) (length c * 8) f m (k % 8) l (omega (arith, length_listed (λ i. get_or (pins c (i / 8)) (i % 8) 0) 2048))
              ∙ sym (listed_at f m (k % 8) 0 l)
              ∙ rw (q, last_net, e)
          go (yes q) (no l) =
              let none : pins c (length c) ≡ [] = source_pins (net_at c (length c)) (past_source c (length c) (omega arith)) in
              old (λ j b' y. l (omega arith)) ∙ rw (q, none, last_net, e) (sym (listed_past f m (k % 8) 0 (omega arith)))
          go (no q) d = old (λ j b' y. q (omega arith)) ∙ rw (other_net (k / 8) (omega arith) q)
