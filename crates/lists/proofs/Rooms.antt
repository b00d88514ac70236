-- Room that is filled from its front, with entries of any kind: nothing yet, one place more, and what stands in it then. Assumes nothing.
use mathlib.Core.Path.{◌≡◌, refl, sym, ap, ◌∙◌}
use mathlib.Core.List.{List, [], ◌∷◌, ◌++◌}
use Prim.Native.Nat.{ℕ, suc, ◌+◌, ◌-◌, ◌≤◌, ◌<◌}
use native.Mathlib.Nat.{add-zero, zero-add}
use native.Mathlib.Numerals.{add-one}
use native.Mathlib.Omega.{arith}
use native.Mathlib.Decide.{dec_lt}
use lib.ListN.{length, get_or, set, take, drop, get_or-eq_default, get_or-append, length-append, length-drop}
use lib.Seq.{sets, length-take-le, get_or-append_right, get_or-take, get_or-drop}
use borrow.Author.Tests.{lt-ltb, le-ltb}
use Rattle.lists.specs.Listed.{upto}
use Rattle.lists.specs.Filled.{fills, filled}
use Rattle.lists.proofs.Listed.{length_listed, listed_at, listed_past, listed_ext, listed_self, is_listed, upto_none, upto_more}

-- d is what is read past a list's end
module _ {A : Type 0} (d : A) where
  pub fills_none : (f : ℕ → A) (room : List A) → room ≡ fills d f 0 room
  fills_none f room = listed_self room d ∙ upto_none f (λ i. get_or room i d) (length room)

  pub fills_length : (f : ℕ → A) (n : ℕ) (room : List A) → length (fills d f n room) ≡ length room
  fills_length f n room = length_listed (upto f (λ i. get_or room i d) n) (length room)

  pub fills_same : (f g : ℕ → A) (n : ℕ) (room : List A) → ((e : ℕ) → e < n → f e ≡ g e) → fills d f n room ≡ fills d g n room
  fills_same f g n room h = listed_ext (upto f (λ i. get_or room i d) n) (upto g (λ i. get_or room i d) n) (length room) (λ i l. at i (dec_lt i n))
    where
      at : (i : ℕ) → Dec (i < n) → upto f (λ i. get_or room i d) n i ≡ upto g (λ i. get_or room i d) n i
      at i (yes b) = rw (lt-ltb i n b) (h i b)
      at i (no b) = rw (le-ltb i n (omega arith))

  pub fills_more : (f g : ℕ → A) (n : ℕ) (room : List A) (v : A) → n < length room → ((e : ℕ) → e < n → f e ≡ g e) → v ≡ g n → set (fills d f n room) n v ≡ fills d g (n + 1) room
  fills_more f g n room v l h e = rw (fills_same f g n room h, e) (upto_more g (λ i. get_or room i d) (length room) n l)

  -- a loop's turn
  pub fills_next : (f : ℕ → A) (i : ℕ) (room xs : List A) → xs ≡ fills d f i room → i < length room → set xs i (f i) ≡ fills d f (i + 1) room
  fills_next f i room xs e l = ap (λ zs. set zs i (f i)) e ∙ upto_more f (λ j. get_or room j d) (length room) i l

  -- what stands in it at the places filled
  pub fills_at : (f : ℕ → A) (n e : ℕ) (room : List A) → n ≤ length room → e < n → get_or (fills d f n room) e d ≡ f e
  fills_at f n e room l b = listed_at (upto f (λ i. get_or room i d) n) (length room) e d (omega arith) ∙ rw (lt-ltb e n b)

  -- and past them
  pub fills_past : (f : ℕ → A) (n e : ℕ) (room : List A) → n ≤ e → get_or (fills d f n room) e d ≡ get_or room e d
  fills_past f n e room l = go (dec_lt e (length room))
    where
      go : Dec (e < length room) → get_or (fills d f n room) e d ≡ get_or room e d
      go (yes b) = listed_at (upto f (λ i. get_or room i d) n) (length room) e d b ∙ rw (le-ltb e n l)
      go (no b) = listed_past (upto f (λ i. get_or room i d) n) (length room) e d (omega arith) ∙ sym (get_or-eq_default room d (omega arith))

  -- the first n entries of a list, copied to the front
  pub fills_copied : (from room : List A) (n : ℕ) → n ≤ length from → n ≤ length room → take n from ++ drop n room ≡ fills d (λ e. get_or from e d) n room
  fills_copied from room n a b = is_listed (upto (λ e. get_or from e d) (λ i. get_or room i d) n) (length room) d (take n from ++ drop n room) size (λ i l. at i (dec_lt i n))
    where
      size : length (take n from ++ drop n room) ≡ length room
      size = length-append (take n from) (drop n room) ∙ omega (arith, length-take-le n from a, length-drop n room)

      at : (i : ℕ) → Dec (i < n) → get_or (take n from ++ drop n room) i d ≡ upto (λ e. get_or from e d) (λ i. get_or room i d) n i
      at i (yes l) =
          let k : i < length (take n from) = omega (arith, length-take-le n from a) in
          rw (lt-ltb i n l) (get_or-append (take n from) (drop n room) d i k ∙ get_or-take n from i d l)
      at i (no l) =
          let long = length-take-le n from a in
          let k : length (take n from) ≤ i = omega arith in
          let x : n + (i - length (take n from)) ≡ i = omega arith in
          rw (le-ltb i n (omega arith)) (get_or-append_right (take n from) (drop n room) i d k ∙ get_or-drop n room (i - length (take n from)) d ∙ ap (λ j. get_or room j d) x)

-- Room for numbers

module _ (f : ℕ → ℕ) (room : List ℕ) where
  pub filled_none : room ≡ filled f 0 room
  filled_none = fills_none 0 f room

  pub filled_length : (n : ℕ) → length (filled f n room) ≡ length room
  filled_length n = fills_length 0 f n room

  -- what a loop that fills it keeps: as long as it was, and one place more at each turn
  pub filled_keeps : (n : ℕ) (xs : List ℕ) → xs ≡ filled f n room → length xs ≡ length room
  filled_keeps n xs e = ap length e ∙ filled_length n

  pub filled_turn : (i v : ℕ) (xs : List ℕ) → xs ≡ filled f i room → v ≡ f i → i < length room → set xs i v ≡ filled f (i + 1) room
  filled_turn i v xs e ev l = ap (λ w. set xs i w) ev ∙ fills_next 0 f i room xs e l

  -- "one entry a net"
  pub filled_at : (n i : ℕ) → i < n → n ≤ length room → get_or (filled f n room) i 0 ≡ f i
  filled_at n i l h = fills_at 0 f n i room h l

  -- "Lent room past the part written keeps its contents."
  pub filled_past : (n i : ℕ) → n ≤ i → get_or (filled f n room) i 0 ≡ get_or room i 0
  filled_past n i l = fills_past 0 f n i room l

  -- a list stored from a place on, where f has its entries
  filled_sets : (ys : List ℕ) (at : ℕ) → ((i : ℕ) → i < length ys → get_or ys i 0 ≡ f (at + i)) → at + length ys ≤ length room → sets (filled f at room) at ys ≡ filled f (at + length ys) room
  filled_sets [] at h l = rw add-zero
  filled_sets (y ∷ ys) at h l =
      let e : y ≡ f at = rw add-zero at (h 0 (omega arith)) in
      let x : at + suc (length ys) ≡ suc at + length ys = omega arith in
      ap (λ zs. sets zs (suc at) ys) (rw add-one at (filled_turn at y (filled f at room) refl e (omega arith)))
      ∙ filled_sets ys (suc at) (λ i b. let z : suc at + i ≡ at + suc i = omega arith in rw z (h (suc i) (omega arith))) (omega arith)
      ∙ ap (λ k. filled f k room) (sym x)

-- a list stored from the front
pub filled_list : (ys room : List ℕ) → length ys ≤ length room → sets room 0 ys ≡ filled (λ i. get_or ys i 0) (length ys) room
filled_list ys room l =
    ap (λ zs. sets zs 0 ys) (filled_none (λ i. get_or ys i 0) room)
    ∙ filled_sets (λ i. get_or ys i 0) room ys 0 (λ i b. rw zero-add) (omega arith)
    ∙ rw zero-add
