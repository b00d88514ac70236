-- Lists by place: entries that are all 0 from one place to another, an area that was written, and a part. Assumes nothing.
use mathlib.Core.Path.{◌≡◌, refl, sym, ap, ap₂, subst, ◌∙◌}
use mathlib.Core.Bool.{Bool, true, false, cond, ◌&&◌}
use mathlib.Core.List.{List}
use mathlib.Core.Logic.{◌⊎◌, inl, inr}
use Prim.Native.Nat.{ℕ, suc, ◌+◌, ◌-◌, ◌*◌, ◌≤◌, ◌<◌}
use native.Mathlib.Nat.{add-zero, suc-mul, mul-le-mul_right}
use native.Mathlib.Omega.{arith}
use lib.Dec.{eqb, leb, ltb}
use lib.ListN.{length, get_or, set, take, drop, length-take, length-drop, get_or-eq_default}
use lib.Seq.{get_or-take, get_or-drop, length-take-le}
use borrow.Author.Tests.{eqb-true, eq-eqb, lt-ltb, le-ltb, le-leb, lt-leb, ltb-true, ltb-false}
use Rattle.lists.specs.Entries.{from}
use Rattle.lists.specs.Listed.{listed}
use Rattle.lists.specs.Places.{part, clear, area}
use Rattle.lists.proofs.Tests.{every_at, every_yes}
use Rattle.lists.proofs.Joined.{in_from, out_from}
use Rattle.lists.proofs.Listed.{length_listed, listed_at, listed_all, is_listed, listed_ext, listed_set, listed_self}

-- Zeros

pub clear_past : (b : List ℕ) (at to : ℕ) → to ≤ at → clear b at to ≡ true
unfolding clear
clear_past b at to l = let gone : to - at ≡ 0 = omega arith in rw gone

pub clear_step : (b : List ℕ) (at to : ℕ) → at < to → clear b at to ≡ (eqb (get_or b at 0) 0 && clear b (at + 1) to)
unfolding clear
clear_step b at to l =
    let more : to - at ≡ suc (to - (at + 1)) = omega arith in
    let next : at + 1 ≡ suc at = omega arith in
    rw (more, next)

-- the test says that each of them is 0
pub clear_at : (b : List ℕ) (at to : ℕ) → clear b at to ≡ true → (i : ℕ) → at ≤ i → i < to → get_or b i 0 ≡ 0
unfolding clear
clear_at b at to e i l u =
    eqb-true (get_or b i 0) 0 (every_at (λ i. eqb (get_or b i 0) 0) (from at (to - at)) e i (in_from at (to - at) i l (omega arith)))

pub clear_make : (b : List ℕ) (at to : ℕ) → ((i : ℕ) → at ≤ i → i < to → get_or b i 0 ≡ 0) → clear b at to ≡ true
unfolding clear
clear_make b at to h =
    every_yes (λ i. eqb (get_or b i 0) 0) (from at (to - at))
    (λ i m. let o = out_from at (to - at) i m in eq-eqb (get_or b i 0) 0 (h i o.0 (omega (arith, o.0, o.1))))

-- the same of places that are counted from one on
pub clear_from : (b : List ℕ) (at n to : ℕ) → ((i : ℕ) → n ≤ i → at + i < to → get_or b (at + i) 0 ≡ 0) → clear b (at + n) to ≡ true
clear_from b at n to h =
    clear_make b (at + n) to
    (λ i l u. let e : at + (i - at) ≡ i = omega arith in subst (λ k. get_or b k 0 ≡ 0) e (h (i - at) (omega arith) (omega arith)))

-- An area

abbrev inside : ℕ → ℕ → ℕ → Bool
inside at to i = leb at i && ltb i to

in_area : (at to i : ℕ) → at ≤ i → i < to → inside at to i ≡ true
in_area at to i l u = rw (le-leb at i l, lt-ltb i to u)

out_area : (at to i : ℕ) → (i < at) ⊎ (to ≤ i) → inside at to i ≡ false
out_area at to i (inl l) = rw (lt-leb at i l)
out_area at to i (inr l) = rw (le-ltb i to l) (never (leb at i))
  where
    never : (x : Bool) → (x && false) ≡ false
    never true = refl
    never false = refl

pub length_area : (b : List ℕ) (at to : ℕ) (v : List ℕ) → length (area b at to v) ≡ length b
unfolding area
length_area b at to v = length_listed _ (length b)

pub area_in : (b : List ℕ) (at to : ℕ) (v : List ℕ) (i : ℕ) → to ≤ length b → at ≤ i → i < to → get_or (area b at to v) i 0 ≡ get_or v (i - at) 0
unfolding area
area_in b at to v i f l u = listed_at _ (length b) i 0 (omega arith) ∙ rw (in_area at to i l u)

pub area_out : (b : List ℕ) (at to : ℕ) (v : List ℕ) (i : ℕ) → (i < at) ⊎ (to ≤ i) → i < length b → get_or (area b at to v) i 0 ≡ get_or b i 0
unfolding area
area_out b at to v i o l = listed_at _ (length b) i 0 l ∙ rw (out_area at to i o)

-- the entry i places after its start
pub area_from : (b : List ℕ) (at to : ℕ) (v : List ℕ) (i : ℕ) → to ≤ length b → at + i < to → get_or (area b at to v) (at + i) 0 ≡ get_or v i 0
area_from b at to v i f u = let e : at + i - at ≡ i = omega arith in area_in b at to v (at + i) f (omega arith) u ∙ ap (λ k. get_or v k 0) e

-- nothing of it; one entry more
pub area_none : (b : List ℕ) (at : ℕ) (v : List ℕ) → b ≡ area b at at v
unfolding area
area_none b at v = listed_self b 0 ∙ listed_ext _ _ (length b) (λ i l. rw (out_area at at i (either i)))
  where
    either : (i : ℕ) → (i < at) ⊎ (at ≤ i)
    either i = go (ltb i at) refl
      where
        go : (x : Bool) → ltb i at ≡ x → (i < at) ⊎ (at ≤ i)
        go true e = inl (ltb-true i at e)
        go false e = inr (ltb-false i at e)

pub area_more : (b : List ℕ) (at i : ℕ) (v : List ℕ) → at ≤ i → i < length b → set (area b at i v) i (get_or v (i - at) 0) ≡ area b at (i + 1) v
unfolding area
area_more b at i v l f = listed_set _ _ (length b) i _ f (rw (in_area at (i + 1) i l (omega arith))) other
  where
    other : (j : ℕ) → j < length b → ¬ (j ≡ i)
        → cond (inside at (i + 1) j) (get_or v (j - at) 0) (get_or b j 0) ≡ cond (inside at i j) (get_or v (j - at) 0) (get_or b j 0)
    other j k n = go (ltb j i) refl
      where
        same : ltb j (i + 1) ≡ ltb j i
            → cond (inside at (i + 1) j) (get_or v (j - at) 0) (get_or b j 0) ≡ cond (inside at i j) (get_or v (j - at) 0) (get_or b j 0)
        same e = rw e

        go : (x : Bool) → ltb j i ≡ x
            → cond (inside at (i + 1) j) (get_or v (j - at) 0) (get_or b j 0) ≡ cond (inside at i j) (get_or v (j - at) 0) (get_or b j 0)
        go true e = same (lt-ltb j (i + 1) (omega (arith, ltb-true j i e)) ∙ sym e)
        go false e = same (le-ltb j (i + 1) (omega (arith, ltb-false j i e)) ∙ sym e)

-- Parts

-- a part, entry by entry
pub part_listed : (b : List ℕ) (at n : ℕ) → at + n ≤ length b → part b at n ≡ listed (λ i. get_or b (at + i) 0) n
part_listed b at n f =
    is_listed (λ i. get_or b (at + i) 0) n 0 (part b at n) (length-take-le n (drop at b) (rw (length-drop at b) (omega arith)))
    (λ i l. get_or-take n (drop at b) i 0 l ∙ get_or-drop at b i 0)

-- parts with the same entries
pub part_same : (b x : List ℕ) (at to n : ℕ) → at + n ≤ length b → to + n ≤ length x → ((i : ℕ) → i < n → get_or b (at + i) 0 ≡ get_or x (to + i) 0)
    → part b at n ≡ part x to n
part_same b x at to n f g h =
    part_listed b at n f ∙ listed_ext (λ i. get_or b (at + i) 0) (λ i. get_or x (to + i) 0) n h ∙ sym (part_listed x to n g)

-- a part that has the entries of a whole list
pub part_whole : (b v : List ℕ) (at : ℕ) → at + length v ≤ length b → ((i : ℕ) → i < length v → get_or b (at + i) 0 ≡ get_or v i 0)
    → part b at (length v) ≡ v
part_whole b v at f h = part_listed b at (length v) f ∙ listed_ext (λ i. get_or b (at + i) 0) (λ i. get_or v i 0) (length v) h ∙ sym (listed_self v 0)

-- a part from one place to another
pub part_of : (b : List ℕ) (at n : ℕ) → take (at + n - at) (drop at b) ≡ part b at n
part_of b at n = let e : at + n - at ≡ n = omega arith in rw e

-- What holds of every entry, and of 0, holds of the entries of an area and of a part

module _ (P : ℕ → Type 0) (zero-too : P 0) (b : List ℕ) (all : (i : ℕ) → P (get_or b i 0)) where
  pub area_all : (at to : ℕ) (v : List ℕ) → ((i : ℕ) → P (get_or v i 0)) → (i : ℕ) → P (get_or (area b at to v) i 0)
  unfolding area
  area_all at to v k i =
      listed_all P (λ i. cond (inside at to i) (get_or v (i - at) 0) (get_or b i 0)) (length b) i 0 (either (inside at to i)) zero-too
    where
      either : (x : Bool) → P (cond x (get_or v (i - at) 0) (get_or b i 0))
      either true = k (i - at)
      either false = all i

  pub part_all : (at n i : ℕ) → P (get_or (part b at n) i 0)
  part_all at n i = go (ltb i n) refl
    where
      go : (x : Bool) → ltb i n ≡ x → P (get_or (part b at n) i 0)
      go true e = rw (get_or-take n (drop at b) i 0 (ltb-true i n e), get_or-drop at b i 0) (all (at + i))
      go false e =
          let short : length (part b at n) ≤ n = rw (length-take n (drop at b)) (omega arith) in
          rw (get_or-eq_default (part b at n) 0 {n = i} (omega (arith, short, ltb-false i n e))) zero-too

-- an area that is written place by place: none, one more, all of them; the list stays as long as it was
module _ (b : List ℕ) (at : ℕ) (v : List ℕ) where
  pub put_start : b ≡ area b at (at + 0) v
  put_start = area_none b at v ∙ ap (λ k. area b at k v) (sym (add-zero at))

  pub put_next : (i w : ℕ) (xs : List ℕ) → at + i < length b → xs ≡ area b at (at + i) v → w ≡ get_or v i 0
      → set xs (at + i) w ≡ area b at (at + (i + 1)) v
  put_next i w xs l e h =
      let here : i ≡ at + i - at = omega arith in
      let next : at + i + 1 ≡ at + (i + 1) = omega arith in
      ap₂ (λ x y. set x (at + i) y) e (h ∙ ap (λ k. get_or v k 0) here) ∙ area_more b at (at + i) v (omega arith) l
      ∙ ap (λ k. area b at k v) next

  pub put_end : (i n : ℕ) (xs : List ℕ) → i ≡ n → xs ≡ area b at (at + i) v → xs ≡ area b at (at + n) v
  put_end i n xs q e = e ∙ ap (λ k. area b at (at + k) v) q

  pub put_length : (to : ℕ) (xs : List ℕ) → xs ≡ area b at to v → length xs ≡ length b
  put_length to xs e = ap length e ∙ length_area b at to v

-- Entries n at a time

pub turn_next : (j n : ℕ) → j * n + n ≡ (j + 1) * n
turn_next j n = let e : j + 1 ≡ suc j = omega arith in sym (ap (λ k. k * n) e ∙ suc-mul j n)

pub turn_fits : (j k n l : ℕ) → j < k → k * n ≤ l → j * n + n ≤ l
turn_fits j k n l b h =
    let more : (j + 1) * n ≤ k * n = mul-le-mul_right n (omega arith) in
    omega (arith, more, turn_next j n, h)

-- the same from the place x where turn j begins: the next turn's place, that the entries are there, and which they are
module _ (j n x : ℕ) (e : x ≡ j * n) where
  pub place_next : x + n ≡ (j + 1) * n
  place_next = ap (λ y. y + n) e ∙ turn_next j n

  pub place_fits : (k l : ℕ) → j < k → k * n ≤ l → x + n ≤ l
  place_fits k l b h = subst (λ y. y + n ≤ l) (sym e) (turn_fits j k n l b h)

  pub place_part : (b : List ℕ) → take (x + n - x) (drop x b) ≡ part b (j * n) n
  place_part b = ap (λ y. take (y + n - y) (drop y b)) e ∙ part_of b (j * n) n
