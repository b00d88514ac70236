-- The nets by level, then number: one net more, one level more, that there is room for them, and the order at the front of an array.
-- Assumes nothing.
use mathlib.Core.Path.{◌≡◌, refl, sym, ap, ◌∙◌}
use mathlib.Core.Bool.{Bool, true, false}
use mathlib.Core.List.Memᴰ
use mathlib.Core.List.{List, [], ◌∷◌, ◌++◌, append_assoc, append-nil}
use mathlib.Core.Logic.{⊎_elim}
use Prim.Native.Nat.{ℕ, zero, suc, ◌+◌, ◌-◌, ◌≤◌, ◌<◌}
use native.Mathlib.Nat.{zero-add}
use native.Mathlib.Numerals.{add-one}
use native.Mathlib.Omega.{arith}
use native.Mathlib.Decide.{dec_lt}
use lib.Dec.{eqb}
use lib.ListN.{length, get_or, take, set, replicate, length-append, get_or-append, get_or-eq_default}
use lib.Seq.{get_or-append_seam}
use borrow.Author.Tests.{eq-eqb, eqb-true}
use Rattle.lists.specs.Entries.{◌∈◌, each, when, from, Distinct}
use Rattle.lists.specs.Listed.{listed}
use Rattle.lists.proofs.Joined.{from_more, each_append, out_each, out_when, out_from}
use Rattle.lists.proofs.Order.{read_all, sorted_append, sorted_each, sorted_when, sorted_one, sorted_from}
use Rattle.lists.proofs.Number.{distinct_below}
use Rattle.lists.proofs.Listed.{length_listed, listed_set, listed_same, listed_at, listed_all, is_listed}
use Rattle.card_wiring.specs.declared.Order.{Order}
use Rattle.card_wiring.specs.Inner.Wires.{row, order_of}
use Rattle.card_wiring.specs.Layout.{padded}
use Rattle.card_wiring.specs.Inner.Wired.{as_order, with_gate}
use Rattle.card_wiring.proofs.Pins.{front_listed}

abbrev Apart : ℕ → ℕ → Type 0
Apart x y = ¬ (x ≡ y)

each_more : (f : ℕ → List ℕ) (a k : ℕ) → each f (from a (suc k)) ≡ each f (from a k) ++ f (a + k)
each_more f a k = ap (each f) (from_more a k) ∙ each_append f (from a k) ((a + k) ∷ []) ∙ ap (λ l. each f (from a k) ++ l) (append-nil (f (a + k)))

-- what holds of a list's entries and of 0 holds of what is read from its array
pub padded_all : (P : ℕ → Type 0) (xs : List ℕ) (i : ℕ) → ((x : ℕ) → x ∈ xs → P x) → P 0 → P (get_or (padded xs) i 0)
padded_all P xs i h z = listed_all P (λ k. get_or xs k 0) 256 i 0 (read_all P xs i 0 h z) z

module _ (levels : List ℕ) where
  abbrev level : ℕ → ℕ
  level g = get_or levels g 0

  -- net g at the end, if it has level l
  pub row_more : (xs : List ℕ) (g l : ℕ) → xs ++ row levels (g + 1) l ≡ (xs ++ row levels g l) ++ when (eqb (level g) l) (g ∷ [])
  row_more xs g l =
      rw (add-one g, each_more (λ g. when (eqb (level g) l) (g ∷ [])) 0 g, zero-add g) (sym (append_assoc xs (row levels g l) (when (eqb (level g) l) (g ∷ []))))

  -- the nets of level l at the end
  order_none : (n : ℕ) → order_of levels n 0 ≡ []
  unfolding order_of
  order_none n = refl

  pub order_more : (n l : ℕ) → 0 < l → order_of levels n (l - 1) ++ row levels n l ≡ order_of levels n l
  unfolding order_of
  order_more n zero h = absurd (omega arith)
  order_more n (suc l) h =
      let e : suc l - 1 ≡ l = omega arith in
      let x : 1 + l ≡ suc l = omega arith in
      rw e (sym (each_more (row levels n) 1 l ∙ rw x))

  -- each stands in it once
  out_row : (n l g : ℕ) → g ∈ row levels n l → (level g ≡ l) × (g < n)
  out_row n l g m =
      let r = out_each (λ g. when (eqb (level g) l) (g ∷ [])) (from 0 n) g m in
      let w = out_when (eqb (level r.0) l) (r.0 ∷ []) g r.2 in
      let e : g ≡ r.0 = Memᴰ.eq_of_singleton w.1 in
      let b = out_from 0 n r.0 r.1 in
      (ap level e ∙ eqb-true (level r.0) l w.0, omega arith)

  out_order : (n d g : ℕ) → g ∈ order_of levels n d → (level g ≤ d) × (g < n)
  unfolding order_of
  out_order n d g m =
      let r = out_each (row levels n) (from 1 d) g m in
      let o = out_row n r.0 g r.2 in
      let b = out_from 1 d r.0 r.1 in
      (omega (arith, o.0), o.1)

  row_once : (n l : ℕ) → Distinct (row levels n l)
  row_once n l = sorted_each ◌<◌ Apart one (from 0 n) (λ g m. sorted_when Apart (eqb (level g) l) (g ∷ []) (sorted_one Apart g)) apart (sorted_from 0 n)
    where
      one : ℕ → List ℕ
      one g = when (eqb (level g) l) (g ∷ [])

      apart : (x y a b : ℕ) → x < y → a ∈ one x → b ∈ one y → Apart a b
      apart x y a b h m k e =
          let p : a ≡ x = Memᴰ.eq_of_singleton (out_when (eqb (level x) l) (x ∷ []) a m).1 in
          let q : b ≡ y = Memᴰ.eq_of_singleton (out_when (eqb (level y) l) (y ∷ []) b k).1 in
          omega arith

  order_once : (n d : ℕ) → Distinct (order_of levels n d)
  unfolding order_of
  order_once n d =
      sorted_each ◌<◌ Apart (row levels n) (from 1 d) (λ l m. row_once n l)
      (λ k l a b h m i e. omega (arith, ap level e, (out_row n k a m).0, (out_row n l b i).0)) (sorted_from 1 d)

  -- so there is room for all,
  order_length : (n d : ℕ) → length (order_of levels n d) ≤ n
  order_length n d = distinct_below n (order_of levels n d) (order_once n d) (λ g m. (out_order n d g m).1)

  -- and for one more that has level l
  pub order_room : (n l g : ℕ) → 0 < l → g < n → level g ≡ l → length (order_of levels n (l - 1) ++ row levels g l) < n
  order_room n l g h b e =
      let xs = order_of levels n (l - 1) in
      let more = row_more xs g l in
      let long = distinct_below n (xs ++ row levels (g + 1) l) once below in
      let size : length (xs ++ row levels (g + 1) l) ≡ length (xs ++ row levels g l) + 1 = ap length more ∙ length-append (xs ++ row levels g l) _ ∙ rw (eq-eqb (level g) l e) in
      omega arith
    where
      once : Distinct (order_of levels n (l - 1) ++ row levels (g + 1) l)
      once =
          sorted_append Apart (order_of levels n (l - 1)) (row levels (g + 1) l) (order_once n (l - 1)) (row_once (g + 1) l)
          (λ x y m k q. omega (arith, ap level q, (out_order n (l - 1) x m).0, (out_row (g + 1) l y k).0))

      below : (x : ℕ) → x ∈ order_of levels n (l - 1) ++ row levels (g + 1) l → x < n
      below x m = ⊎_elim (λ a. (out_order n (l - 1) x a).1) (λ a. omega (arith, (out_row (g + 1) l x a).1)) (Memᴰ.append_cases (order_of levels n (l - 1)) m)

-- A list at the front of an array

padded_none : replicate 256 0 ≡ padded []
padded_none = listed_same 0 256

-- a store at its end
padded_more : (xs : List ℕ) (v : ℕ) → length xs < 256 → set (padded xs) (length xs) v ≡ padded (xs ++ (v ∷ []))
padded_more xs v l = listed_set (λ i. get_or xs i 0) (λ i. get_or (xs ++ (v ∷ [])) i 0) 256 (length xs) v l (get_or-append_seam xs v [] 0) other
  where
    other : (j : ℕ) → j < 256 → ¬ (j ≡ length xs) → get_or (xs ++ (v ∷ [])) j 0 ≡ get_or xs j 0
    other j b q = go (dec_lt j (length xs))
      where
        go : Dec (j < length xs) → get_or (xs ++ (v ∷ [])) j 0 ≡ get_or xs j 0
        go (yes h) = get_or-append xs (v ∷ []) 0 j h
        go (no h) =
            let a : length (xs ++ (v ∷ [])) ≤ j = omega (arith, length-append xs (v ∷ [])) in
            let b : length xs ≤ j = omega arith in
            get_or-eq_default (xs ++ (v ∷ [])) 0 a ∙ sym (get_or-eq_default xs 0 b)

-- as an order: none yet, and one more
pub ordered_none : (levels : List ℕ) (n : ℕ) → ◌≡◌ {A = Order} (record { gates = 0; list = replicate 256 0 }) (as_order (order_of levels n 0))
ordered_none levels n = rw (order_none levels n) (λ i. record { gates = 0; list = padded_none i })

pub ordered_more : (order : Order) (xs : List ℕ) (b : Bool) (g : ℕ) → order ≡ as_order xs → (b ≡ true → order.gates < 256)
    → with_gate order b g ≡ as_order (xs ++ when b (g ∷ []))
ordered_more order xs false g e l = rw (append-nil xs) e
ordered_more order xs true g e l =
    let room : length xs < 256 = rw e at (l refl) in
    rw e (λ i. record { gates = sym (length-append xs (g ∷ [])) i; list = padded_more xs g room i })

-- what stands at the front is read back
pub padded_back : (xs : List ℕ) → length xs ≤ 256 → listed (λ i. get_or (padded xs) i 0) (length xs) ≡ xs
padded_back xs l = sym (is_listed (λ i. get_or (padded xs) i 0) (length xs) 0 xs refl (λ i b. sym (listed_at (λ i. get_or xs i 0) 256 i 0 (omega arith))))

-- the order of the levels: its gates are nets, it fits its array, and is read back from there
module _ (levels : List ℕ) (n d : ℕ) (few : n ≤ 256) where
  pub order_short : length (order_of levels n d) ≤ 256
  order_short = omega (arith, order_length levels n d)

  pub order_nets : (i : ℕ) → get_or (order_of levels n d) i 0 < 256
  order_nets i = read_all (λ x. x < 256) (order_of levels n d) i 0 (λ g m. omega (arith, (out_order levels n d g m).1)) (omega arith)

  module _ (order : Order) (e : order ≡ as_order (order_of levels n d)) where
    pub ordered_fits : order.gates ≤ 256
    ordered_fits = rw e order_short

    pub ordered_front : take order.gates order.list ≡ order_of levels n d
    ordered_front =
        rw e (front_listed (padded (order_of levels n d)) (length (order_of levels n d)) (simp length_listed order_short) ∙ padded_back (order_of levels n d) order_short)
