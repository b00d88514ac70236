-- What stands where in the bytes that an operation leaves. Assumes nothing.
use mathlib.Core.Path.{◌≡◌, refl, sym, subst, ◌∙◌}
use mathlib.Core.Bool.{true}
use mathlib.Core.List.{List, [], ◌∷◌}
use mathlib.Core.Logic.{◌⊎◌, inl, inr}
use Prim.Native.Nat.{ℕ, zero, suc, ◌+◌, ◌-◌, ◌/◌, ◌%◌, ◌≤◌, ◌<◌}
use native.Mathlib.Omega.{arith}
use native.Mathlib.Decide.{dec_lt}
use lib.Dec.{lit<, lit≤}
use lib.ListN.{length, get_or, get_or-eq_default}
use lib.Seq.{ext_get_or}
use Rattle.lists.specs.Places.{part, clear, area}
use Rattle.lists.proofs.Places.{clear_at, clear_make, clear_from, length_area, area_in, area_out, area_from, part_same, part_whole}
use Rattle.card_records.specs.Bytes.{u16_at}
use Rattle.card_records.specs.Written.{Bytes}
use Rattle.card_records.proofs.TwoBytes.{u16_of, u16_same}
use Rattle.operations.specs.declared.Engine.{Engine}
use Rattle.host_bytes.specs.Layout.{older_at, last_at, card_at, longest_card, card_to, session_length}
use Rattle.host_bytes.specs.Kept.{last_room, mark_of, kept_card, kept_rest, kept_vector}
use Rattle.host_bytes.proofs.Bytes.{area_bytes, room_at, one_byte, zero_byte}

-- A card that was just loaded

module _ (b v : List ℕ) (long : session_length ≤ length b) where
  abbrev head : List ℕ
  head = 1 ∷ length v % 256 ∷ length v / 256 % 256 ∷ []

  abbrev headed : List ℕ
  headed = area b 0 older_at head

  abbrev emptied : List ℕ
  emptied = area headed older_at card_at (0 ∷ [])

  headed_long : session_length ≤ length headed
  headed_long = simp length_area long

  emptied_long : session_length ≤ length emptied
  emptied_long = simp length_area long

  pub length_card : length (kept_card b v) ≡ length b
  unfolding kept_card
  length_card = simp length_area

  pub card_long : session_length ≤ length (kept_card b v)
  unfolding kept_card
  card_long = simp length_area long

  head_bytes : Bytes head
  head_bytes zero = lit< tt
  head_bytes (suc zero) = omega arith
  head_bytes (suc (suc zero)) = omega arith
  head_bytes (suc (suc (suc i))) = lit< tt

  pub card_bytes_lem : Bytes b → Bytes v → Bytes (kept_card b v)
  unfolding kept_card
  card_bytes_lem h k =
      area_bytes emptied card_at card_to v
      (area_bytes headed older_at card_at (0 ∷ []) (area_bytes b 0 older_at head h head_bytes) (one_byte 0 (lit< tt))) k

  pub card_head : (i : ℕ) → i < older_at → get_or (kept_card b v) i 0 ≡ get_or head (i - 0) 0
  unfolding kept_card
  card_head i l =
      let e = emptied_long in
      let h = headed_long in
      area_out emptied card_at card_to v i (inl (omega arith)) (omega arith) ∙ area_out headed older_at card_at (0 ∷ []) i (inl l) (omega arith)
      ∙ area_in b 0 older_at head i (omega arith) (omega arith) l

  pub card_none : (i : ℕ) → older_at ≤ i → i < card_at → get_or (kept_card b v) i 0 ≡ 0
  unfolding kept_card
  card_none i l u =
      let e = emptied_long in
      let h = headed_long in
      area_out emptied card_at card_to v i (inl u) (omega arith) ∙ area_in headed older_at card_at (0 ∷ []) i (omega arith) l u ∙ zero_byte (i - older_at)

  pub card_at_lem : (i : ℕ) → card_at + i < card_to → get_or (kept_card b v) (card_at + i) 0 ≡ get_or v i 0
  unfolding kept_card
  card_at_lem i u = let e = emptied_long in area_from emptied card_at card_to v i (omega arith) u

  pub card_past : (i : ℕ) → card_to ≤ i → i < length b → get_or (kept_card b v) i 0 ≡ get_or b i 0
  unfolding kept_card
  card_past i l u =
      area_out emptied card_at card_to v i (inr l) (simp length_area u) ∙ area_out headed older_at card_at (0 ∷ []) i (inr (omega arith)) (simp length_area u)
      ∙ area_out b 0 older_at head i (inr (omega arith)) u

  pub card_state : get_or (kept_card b v) 0 0 ≡ 1
  card_state = card_head 0 (lit< tt)

  module _ (fits : length v ≤ longest_card) where
    pub card_length : u16_at (kept_card b v) 1 ≡ length v
    card_length = u16_of (kept_card b v) 1 (length v) (omega arith) (card_head 1 (lit< tt)) (card_head 2 (lit< tt))

    pub card_clear : clear (kept_card b v) (card_at + length v) card_to ≡ true
    card_clear = clear_from (kept_card b v) card_at (length v) card_to (λ i l u. card_at_lem i u ∙ get_or-eq_default v 0 {n = i} l)

    pub card_part : part (kept_card b v) card_at (length v) ≡ v
    card_part =
        let long' = card_long in
        part_whole (kept_card b v) v card_at (omega arith) (λ i l. card_at_lem i (omega arith))

-- A card that was just rested, or moved by a vector: another state, and other vectors

module _ (b : List ℕ) (k : ℕ) (o v : List ℕ) where
  abbrev stated : List ℕ
  stated = area b 0 1 (k ∷ [])

  abbrev older : List ℕ
  older = area stated older_at last_at o

  abbrev pub rooms : List ℕ
  rooms = area older last_at card_at v

  pub length_rooms : length rooms ≡ length b
  length_rooms = simp length_area

  module _ (long : session_length ≤ length b) where
    stated_long : session_length ≤ length stated
    stated_long = simp length_area long

    older_long : session_length ≤ length older
    older_long = simp length_area long

    pub rooms_long : session_length ≤ length rooms
    rooms_long = simp length_area long

    pub rooms_bytes : Bytes b → k < 256 → Bytes o → Bytes v → Bytes rooms
    rooms_bytes h l p q = area_bytes older last_at card_at v (area_bytes stated older_at last_at o (area_bytes b 0 1 (k ∷ []) h (one_byte k l)) p) q

    outside : (i : ℕ) → (i < older_at) ⊎ (card_at ≤ i) → i < length b → get_or rooms i 0 ≡ get_or stated i 0
    outside i (inl l) u =
        area_out older last_at card_at v i (inl (omega arith)) (simp length_area u) ∙ area_out stated older_at last_at o i (inl l) (simp length_area u)
    outside i (inr l) u =
        area_out older last_at card_at v i (inr l) (simp length_area u) ∙ area_out stated older_at last_at o i (inr (omega arith)) (simp length_area u)

    pub rooms_state : get_or rooms 0 0 ≡ k
    rooms_state = outside 0 (inl (lit< tt)) (omega arith) ∙ area_in b 0 1 (k ∷ []) 0 (omega arith) (lit≤ tt) (lit< tt)

    pub kept_at : (i : ℕ) → (i < older_at) ⊎ (card_at ≤ i) → 0 < i → i < length b → get_or rooms i 0 ≡ get_or b i 0
    kept_at i o l u = outside i o u ∙ area_out b 0 1 (k ∷ []) i (inr l) u

    pub rooms_length : u16_at rooms 1 ≡ u16_at b 1
    rooms_length = u16_same rooms 1 b (kept_at 1 (inl (lit< tt)) (lit< tt) (omega arith)) (kept_at 2 (inl (lit< tt)) (lit< tt) (omega arith))

    pub rooms_clear : (at : ℕ) → card_at ≤ at → clear b at card_to ≡ true → clear rooms at card_to ≡ true
    rooms_clear at f e = clear_make rooms at card_to (λ i l u. kept_at i (inr (omega arith)) (omega arith) (omega arith) ∙ clear_at b at card_to e i l u)

    pub rooms_card : (n : ℕ) → n ≤ longest_card → part rooms card_at n ≡ part b card_at n
    rooms_card n f =
        let r = rooms_long in
        part_same rooms b card_at card_at n (omega arith) (omega arith) (λ i l. kept_at (card_at + i) (inr (omega arith)) (omega arith) (omega arith))

    pub rooms_older : (i : ℕ) → i < 256 → get_or rooms (older_at + i) 0 ≡ get_or o i 0
    rooms_older i l =
        let e = older_long in
        let h = stated_long in
        area_out older last_at card_at v (older_at + i) (inl (omega arith)) (omega arith) ∙ area_from stated older_at last_at o i (omega arith) (omega arith)

    pub rooms_last : (i : ℕ) → i < 256 → get_or rooms (last_at + i) 0 ≡ get_or v i 0
    rooms_last i l = let e = older_long in area_from older last_at card_at v i (omega arith) (omega arith)

    -- the last room's part is the vector
    pub rooms_given : length v ≤ 256 → part rooms last_at (length v) ≡ v
    rooms_given f = let r = rooms_long in part_whole rooms v last_at (omega arith) (λ i l. rooms_last i (omega arith))

-- what is kept of a rest and of a vector, in these words
pub rest_rooms : (b v : List ℕ) → kept_rest b v ≡ rooms b 2 (0 ∷ []) v
unfolding kept_rest
rest_rooms b v = refl

pub vector_rooms : (engine : Engine) (b v : List ℕ) → kept_vector engine b v ≡ rooms b (mark_of engine) (last_room b) v
unfolding kept_vector
vector_rooms engine b v = refl

-- where the last vector goes when another one comes
pub room_moved : (b : List ℕ) (k : ℕ) (v : List ℕ) → session_length ≤ length b → (n : ℕ) → n ≤ 256 → part (rooms b k (last_room b) v) older_at n ≡ part b last_at n
room_moved b k v long n f =
    let r = rooms_long b k (last_room b) v long in
    part_same (rooms b k (last_room b) v) b older_at last_at n (omega arith) (omega arith)
    (λ i l. rooms_older b k (last_room b) v long i (omega arith) ∙ room_at b i (omega arith))

-- the same where the card stands, and past all that is kept
abbrev pub Elsewhere : List ℕ → List ℕ → Type 0
Elsewhere x b = (i : ℕ) → (i < older_at) ⊎ (card_at ≤ i) → 0 < i → i < length b → get_or x i 0 ≡ get_or b i 0

-- bytes that are the same there, in the state and in the two rooms are the same
pub same_bytes : (x b : List ℕ) → length x ≡ length b → get_or x 0 0 ≡ get_or b 0 0 → ((i : ℕ) → i < 256 → get_or x (older_at + i) 0 ≡ get_or b (older_at + i) 0)
    → ((i : ℕ) → i < 256 → get_or x (last_at + i) 0 ≡ get_or b (last_at + i) 0) → Elsewhere x b → x ≡ b
same_bytes x b e z p q r = ext_get_or 0 x b e (λ i l. at i (omega arith) (dec_lt i 1) (dec_lt i older_at) (dec_lt i last_at) (dec_lt i card_at))
  where
    by : (a i : ℕ) → a ≤ i → get_or x (a + (i - a)) 0 ≡ get_or b (a + (i - a)) 0 → get_or x i 0 ≡ get_or b i 0
    by a i l h = let m : a + (i - a) ≡ i = omega arith in subst (λ j. get_or x j 0 ≡ get_or b j 0) m h

    at : (i : ℕ) → i < length b → Dec (i < 1) → Dec (i < older_at) → Dec (i < last_at) → Dec (i < card_at) → get_or x i 0 ≡ get_or b i 0
    at i l (yes a) c d f = let m : 0 ≡ i = omega arith in subst (λ j. get_or x j 0 ≡ get_or b j 0) m z
    at i l (no a) (yes c) d f = r i (inl c) (omega arith) l
    at i l (no a) (no c) (yes d) f = by older_at i (omega arith) (p (i - older_at) (omega arith))
    at i l (no a) (no c) (no d) (yes f) = by last_at i (omega arith) (q (i - last_at) (omega arith))
    at i l (no a) (no c) (no d) (no f) = r i (inr (omega arith)) (omega arith) l

-- What vectors keep, one after another

module _ (engine : Engine) where
  abbrev k : ℕ
  k = mark_of engine

  pub length_kept : (b v : List ℕ) → length (kept_vector engine b v) ≡ length b
  unfolding kept_vector
  length_kept b v = length_rooms b k (last_room b) v

  -- after two vectors the bytes have both, and else what they had
  module _ (b u w : List ℕ) (long : session_length ≤ length b) where
    abbrev one : List ℕ
    one = rooms b k (last_room b) u

    abbrev two : List ℕ
    two = rooms one k (last_room one) w

    one_long : session_length ≤ length one
    one_long = omega (arith, length_rooms b k (last_room b) u, long)

    two_older : (i : ℕ) → i < 256 → get_or two (older_at + i) 0 ≡ get_or u i 0
    two_older i l = rooms_older one k (last_room one) w one_long i l ∙ room_at one i l ∙ rooms_last b k (last_room b) u long i l

    two_else : Elsewhere two b
    two_else i o p q =
        kept_at one k (last_room one) w one_long i o p (omega (arith, length_rooms b k (last_room b) u, q)) ∙ kept_at b k (last_room b) u long i o p q

  -- so of three vectors the first is forgotten
  pub kept_forgets : (b x u w : List ℕ) → session_length ≤ length b
      → kept_vector engine (kept_vector engine (kept_vector engine b x) u) w ≡ kept_vector engine (kept_vector engine b u) w
  unfolding kept_vector
  kept_forgets b x u w long =
      same_bytes (two a u w more) (two b u w long) size
      (rooms_state (one a u w more) k (last_room (one a u w more)) w (one_long a u w more)
      ∙ sym (rooms_state (one b u w long) k (last_room (one b u w long)) w (one_long b u w long)))
      (λ i l. two_older a u w more i l ∙ sym (two_older b u w long i l))
      (λ i l. rooms_last (one a u w more) k (last_room (one a u w more)) w (one_long a u w more) i l
      ∙ sym (rooms_last (one b u w long) k (last_room (one b u w long)) w (one_long b u w long) i l))
      (λ i o p q. two_else a u w more i o p (omega (arith, same_two, same_a, q)) ∙ kept_at b k (last_room b) x long i o p (omega (arith, same_two, q))
      ∙ sym (two_else b u w long i o p (omega (arith, same_two, q))))
    where
      a : List ℕ
      a = rooms b k (last_room b) x

      same_a : length a ≡ length b
      same_a = length_rooms b k (last_room b) x

      more : session_length ≤ length a
      more = omega (arith, same_a, long)

      both : (y : List ℕ) (l : session_length ≤ length y) → length (two y u w l) ≡ length y
      both y l = length_rooms (one y u w l) k (last_room (one y u w l)) w ∙ length_rooms y k (last_room y) u

      same_two : length (two b u w long) ≡ length b
      same_two = both b long

      size : length (two a u w more) ≡ length (two b u w long)
      size = both a more ∙ same_a ∙ sym same_two
