-- Entries of a list written at once, as areas; and entries tested one after another, as a clear place. Assumes nothing.
use Rattle.std.proofs.Common.{◌≡◌, refl, sym, ap, inl, inr, ◌∙◌, ℕ, zero, suc, ◌+◌, ◌-◌, ◌/◌, ◌%◌, ◌≤◌, ◌<◌, ◌&&◌, nat_eq, List, [], ◌∷◌, ◌++◌, length, get_or, take, drop, set, replicate, arith, append_assoc, lit≤}
use Rattle.std.specs.List.{list_all, copy_within}
use Rattle.std.proofs.lemmas.List.{length-replicate, length-append, length-take-le, length-drop, get_or_append_left, get_or-append_right, get_or-take, get_or-drop, get_or-replicate, drop_all, drop_more, ext_get_or}
use native.Mathlib.Decide.{dec_lt}
use borrow.Rule.Slice.PartMut.{put_mid, Post-is}
use Rattle.lists.specs.Places.{clear, area}
use Rattle.host_bytes.specs.Layout.{older_at, last_at, card_at, session_length}
use Rattle.host_bytes.specs.Kept.{last_room}
use Rattle.host_bytes.proofs.Bytes.{room_at, zero_byte}
use Rattle.lists.proofs.Places.{clear_past, clear_step, length_area, area_in, area_out, put_start, put_next}

-- entries put from one place to another, which are a list's and 0 past its end
pub placed : (b : List ℕ) (at to : ℕ) (v w : List ℕ) → at ≤ to → to ≤ length b → length w ≡ to - at → ((i : ℕ) → i < to - at → get_or w i 0 ≡ get_or v i 0)
    → take at b ++ (w ++ drop to b) ≡ area b at to v
placed b at to v w l u n h = ext_get_or 0 put (area b at to v) (long ∙ sym (length_area b at to v)) (λ i k. by i (omega (arith, long, k)) (dec_lt i at) (dec_lt i to))
  where
    put : List ℕ
    put = take at b ++ (w ++ drop to b)

    head : length (take at b) ≡ at
    head = length-take-le at b (omega arith)

    long : length put ≡ length b
    long = omega (arith, length-append (take at b) (w ++ drop to b), length-append w (drop to b), length-drop to b, head)

    by : (i : ℕ) → i < length b → Dec (i < at) → Dec (i < to) → get_or put i 0 ≡ get_or (area b at to v) i 0
    by i k (yes x) y =
        get_or_append_left (take at b) (w ++ drop to b) 0 i (omega (arith, head)) ∙ get_or-take at b i 0 x ∙ sym (area_out b at to v i (inl x) k)
    by i k (no x) (yes y) =
        get_or-append_right (take at b) (w ++ drop to b) at i 0 head (omega arith) ∙ get_or_append_left w (drop to b) 0 (i - at) (omega arith)
        ∙ h (i - at) (omega arith) ∙ sym (area_in b at to v i u (omega arith) y)
    by i k (no x) (no y) =
        let e : to + (i - at - (to - at)) ≡ i = omega arith in
        get_or-append_right (take at b) (w ++ drop to b) at i 0 head (omega arith) ∙ get_or-append_right w (drop to b) (to - at) (i - at) 0 n (omega arith)
        ∙ get_or-drop to b (i - at - (to - at)) 0 ∙ ap (λ j. get_or b j 0) e ∙ sym (area_out b at to v i (inr (omega arith)) k)

-- the same of a part that was lent
pub put_placed : (b : List ℕ) (at to : ℕ) (v w : List ℕ) → at ≤ to → to ≤ length b → length w ≡ to - at → ((i : ℕ) → i < to - at → get_or w i 0 ≡ get_or v i 0)
    → put_mid at (to - at) b w ≡ area b at to v
put_placed b at to v w l u n h = ap (λ x. take at b ++ (w ++ x)) (Post-is at to b l) ∙ placed b at to v w l u n h

-- 0 written from one place to another
pub zeros_placed : (b z : List ℕ) (at to : ℕ) → at ≤ to → to ≤ length b → z ≡ replicate (length (take (to - at) (drop at b))) 0
    → put_mid at (to - at) b z ≡ area b at to (0 ∷ [])
zeros_placed b z at to l u e =
    put_placed b at to (0 ∷ []) z l u (ap length same ∙ length-replicate {A = ℕ} (to - at) 0)
    (λ i k. ap (λ y. get_or y i 0) same ∙ get_or-replicate (to - at) i 0 0 k ∙ sym (zero_byte i))
  where
    same : z ≡ replicate (to - at) 0
    same = e ∙ ap (λ k. replicate k 0) (length-take-le (to - at) (drop at b) (omega (arith, length-drop at b)))

-- the last vector's room put where the vector before it stands
pub room_put : (b : List ℕ) (k : ℕ) → session_length ≤ length b → copy_within (area b 0 1 (k ∷ [])) last_at card_at older_at ≡ area (area b 0 1 (k ∷ [])) older_at last_at (last_room b)
room_put b k long = append_assoc (take older_at x) (take 256 (drop last_at x)) (drop last_at x) ∙ placed x older_at last_at (last_room b) (take 256 (drop last_at x)) (lit≤ tt) (omega (arith, size)) (length-take-le 256 (drop last_at x) (omega (arith, length-drop last_at x, size)))
    (λ i l. get_or-take 256 (drop last_at x) i 0 l ∙ get_or-drop last_at x i 0 ∙ area_out b 0 1 (k ∷ []) (last_at + i) (inr (omega arith)) (omega arith) ∙ sym (room_at b i l))
  where
    x : List ℕ
    x = area b 0 1 (k ∷ [])

    size : length x ≡ length b
    size = length_area b 0 1 (k ∷ [])

-- a card's state and the low and high byte of its length
pub head_put : (b : List ℕ) (n : ℕ) → session_length ≤ length b → (1 ∷ n % 256 ∷ n / 256 % 256 ∷ []) ++ drop older_at b ≡ area b 0 older_at (1 ∷ n % 256 ∷ n / 256 % 256 ∷ [])
head_put b n long = placed b 0 older_at (1 ∷ n % 256 ∷ n / 256 % 256 ∷ []) (1 ∷ n % 256 ∷ n / 256 % 256 ∷ []) (lit≤ tt) (omega arith) refl (λ i l. refl)

-- one byte written at the start
pub first_put : (b : List ℕ) (k : ℕ) → 0 < length b → set b 0 k ≡ area b 0 1 (k ∷ [])
first_put b k l = put_next b 0 (k ∷ []) 0 k b l (put_start b 0 (k ∷ [])) refl

-- entries that are all 0, one after another
pub clear_all : (b : List ℕ) (at to : ℕ) → to ≤ length b → list_all (λ x. nat_eq x 0) (drop at (take to b)) ≡ clear b at to
clear_all b at to u = go (to - at) at refl
  where
    long : length (take to b) ≡ to
    long = length-take-le to b u

    go : (n i : ℕ) → n ≡ to - i → list_all (λ x. nat_eq x 0) (drop i (take to b)) ≡ clear b i to
    go zero i e = ap (list_all (λ x. nat_eq x 0)) (drop_all i (take to b) (omega (arith, long))) ∙ sym (clear_past b i to (omega arith))
    go (suc n) i e =
        ap (list_all (λ x. nat_eq x 0)) (drop_more (take to b) i 0 (omega (arith, long)))
        ∙ ap (λ x. nat_eq x 0 && list_all (λ x. nat_eq x 0) (drop (i + 1) (take to b))) (get_or-take to b i 0 (omega arith))
        ∙ ap (λ x. nat_eq (get_or b i 0) 0 && x) (go n (i + 1) (omega arith)) ∙ sym (clear_step b i to (omega arith))
