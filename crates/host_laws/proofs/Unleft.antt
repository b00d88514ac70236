-- Bytes that no call left answer 12: bytes from which a session is made again are exactly the bytes that some calls left of a slice of zeros. Assumes nothing.
use mathlib.Core.Path.{◌≡◌, refl, sym, ap, subst, ◌∙◌}
use mathlib.Core.Bool.{true}
use mathlib.Core.List.Memᴰ
use mathlib.Core.List.{List, [], ◌∷◌}
use mathlib.Core.Logic.{◌⊎◌, inl, inr}
use Prim.Native.Nat.{ℕ, ◌+◌, ◌-◌, ◌/◌, ◌%◌, ◌≤◌, ◌<◌}
use native.Mathlib.Omega.{arith}
use native.Mathlib.Decide.{dec_lt}
use lib.Dec.{lit<}
use lib.ListN.{length, get_or, drop, length-take, get_or-eq_default}
use lib.Seq.{ext_get_or, get_or-take, get_or-drop}
use Rattle.lists.specs.Entries.{◌∈◌}
use Rattle.lists.specs.Places.{part, clear, area}
use Rattle.lists.proofs.Places.{clear_at, length_area, area_in, area_out, part_listed}
use Rattle.lists.proofs.Listed.{length_listed}
use Rattle.rule.specs.Net.{Net}
use Rattle.rule.specs.declared.Refusal.TheVariants.{NotReady}
use Rattle.std.specs.Prelude.{Option, None, Some, IsSome, is_some, Ok, Err}
use Rattle.inputs.specs.Allowed.{Vector}
use Rattle.card_records.specs.Bytes.{u16_at}
use Rattle.card_records.specs.Written.{Bytes}
use Rattle.card_records.proofs.TwoBytes.{of_u16}
use Rattle.card.specs.declared.Session.{Session}
use Rattle.card.specs.Session.{none, session_of}
use Rattle.operations.specs.declared.Engine.{Engine}
use Rattle.operations.specs.declared.Move.{Move}
use Rattle.operations.specs.declared.Move.TheVariants.{Load, Rest, Vector as ByEngine}
use Rattle.operations.specs.Operated.{operated}
use Rattle.operations.proofs.Engines.{count_by}
use Rattle.host_bytes.specs.Layout.{older_at, last_at, card_at, card_to, session_length}
use Rattle.host_bytes.specs.Kept.{last_room, mark_of, kept_card, kept_by}
use Rattle.host_bytes.proofs.Bytes.{area_bytes, part_bytes, room_at, zero_byte}
use Rattle.host_bytes.proofs.Rooms.{length_card, card_head, card_none, card_at_lem, card_past, card_state, rooms, length_rooms, rooms_state, kept_at, rooms_older, rooms_last, rest_rooms, vector_rooms, Elsewhere, same_bytes}
use Rattle.host_made.specs.Made.{fitting, made_again}
use Rattle.host.specs.Calls.{packed, left_by, host_move}
use Rattle.host.proofs.Packing.{refused_number}
use Rattle.host.proofs.Answering.{move_broken, history_broken}
use Rattle.host.proofs.Vectors.{vectors_broken}
use Rattle.host_laws.specs.Following.{Holding, HostCall, bytes_after, session_after}
use Rattle.host_laws.specs.Left.{Left, Unready}
use Rattle.host_laws.proofs.Fits.{fitting_none}
use Rattle.host_laws.proofs.Opened.{Carried, inputs, at_rest, after_both, Kept, keeps_none, keeps_card, keeps_rest, keeps_moved, carries, opened, rest_taken, both_taken}
use Rattle.host_laws.proofs.Following.{zeros_hold, move_is, move_follows, all_follow}

-- a part, and 0 past it, has the entry of the list where the list is 0 past the part
part_padded : (b : List ℕ) (at n i : ℕ) → (n ≤ i → get_or b (at + i) 0 ≡ 0) → get_or (part b at n) i 0 ≡ get_or b (at + i) 0
part_padded b at n i e = go (dec_lt i n)
  where
    go : Dec (i < n) → get_or (part b at n) i 0 ≡ get_or b (at + i) 0
    go (yes l) = get_or-take n (drop at b) i 0 l ∙ get_or-drop at b i 0
    go (no l) =
        let short : length (part b at n) ≤ n = rw (length-take n (drop at b)) (omega arith) in
        get_or-eq_default (part b at n) 0 {n = i} (omega (arith, short)) ∙ sym (e (omega arith))

-- Calls that are given bytes: none, and one more

abbrev Given : List HostCall → Type 0
Given cs = (c : HostCall) → c ∈ cs → Bytes c.given

none_given : Given []
none_given c m = absurd (Memᴰ.not-nil m)

more_given : (how : Move) (v : List ℕ) (cs : List HostCall) → Bytes v → Given cs → Given (record { how = how; given = v } ∷ cs)
more_given how v cs g h c m = go (Memᴰ.cases_cons m)
  where
    go : (c ≡ record { how = how; given = v }) ⊎ (c ∈ cs) → Bytes c.given
    go (inl e) = subst (λ x. Bytes x.given) (sym e) g
    go (inr n) = h c n

-- The slice of zeros: the same bytes past what is kept

module _ (b : List ℕ) (long : session_length ≤ length b) (ok : Bytes b) where
  abbrev zeroed : List ℕ
  zeroed = area b 0 session_length []

  zeroed_long : session_length ≤ length zeroed
  zeroed_long = simp length_area long

  zeroed_bytes : Bytes zeroed
  zeroed_bytes = area_bytes b 0 session_length [] ok (λ i. lit< tt)

  zeroed_none : (i : ℕ) → i < session_length → get_or zeroed i 0 ≡ 0
  zeroed_none i l = area_in b 0 session_length [] i long (omega arith) l

  zeroed_past : (i : ℕ) → session_length ≤ i → i < length b → get_or zeroed i 0 ≡ get_or b i 0
  zeroed_past i l u = area_out b 0 session_length [] i (inr l) u

  zeroed_holds : Holding zeroed none
  zeroed_holds = zeros_hold zeroed zeroed_long zeroed_bytes zeroed_none

  left_by_lem : (calls : List HostCall) → Given calls → bytes_after zeroed calls ≡ b → Left b
  left_by_lem calls g e = record { zeros = zeroed; room = zeroed_long; bytes = zeroed_bytes; empty = zeroed_none; calls = calls; given = g; leave = e }

  -- bytes that are all zeros: no call at all left them
  none_left : clear b 0 session_length ≡ true → Left b
  unfolding bytes_after
  none_left e = left_by_lem [] none_given (ext_get_or 0 zeroed b (simp length_area) (λ i l. at i (rw length_area at l) (dec_lt i session_length)))
    where
      at : (i : ℕ) → i < length b → Dec (i < session_length) → get_or zeroed i 0 ≡ get_or b i 0
      at i l (yes u) = zeroed_none i u ∙ sym (clear_at b 0 session_length e i (omega arith) u)
      at i l (no u) = zeroed_past i (omega arith) l

-- A call that is done leaves what is kept, and that holds the session that the operation left

call_done : (how : Move) (b v : List ℕ) (s : Session) → Holding b s → Bytes v → (count : ℕ) (next : Session)
    → operated how s v ≡ record { answer = Ok count; session = next } → ((host_move how b v).bytes ≡ kept_by how b v) × Holding (kept_by how b v) next
call_done how b v s h g count next e =
    let kept : (host_move how b v).bytes ≡ kept_by how b v =
    ap (λ x. x.bytes) (move_is b s h v g how) ∙ ap (λ m. (left_by how m.answer b v).bytes) e in
    (kept, subst (Holding (kept_by how b v)) (ap (λ m. m.session) e) (subst (λ x. Holding x (operated how s v).session) kept (move_follows how b v s h g).0))

-- Bytes that carry a card

-- the card's part is the last one: nothing stands behind it, where no call leaves anything and `made_again` does not look
card_last : session_length ≡ card_to
card_last = refl

module _ (b : List ℕ) (long : session_length ≤ length b) (ok : Bytes b) (c : List Net) (k : Carried b c) where
  abbrev start : List ℕ
  start = zeroed b long ok

  begun : session_length ≤ length start
  begun = zeroed_long b long ok

  abbrev card : List ℕ
  card = part b card_at (u16_at b 1)

  abbrev older : List ℕ
  older = part b older_at (inputs c)

  abbrev last : List ℕ
  last = part b last_at (inputs c)

  abbrev to : Move → List ℕ → HostCall
  to how v = record { how = how; given = v }

  -- the card, loaded of the zeros

  abbrev loaded : List ℕ
  loaded = kept_card start card

  load_done : ((host_move Load start card).bytes ≡ loaded) × Holding loaded (session_of c)
  load_done =
      call_done Load start card none (zeroed_holds b long ok) (part_bytes b ok card_at (u16_at b 1)) (length c) (session_of c)
      (ap (λ l. record { answer = l.answer; session = l.session }) (carries b ok c k))

  length_loaded : length loaded ≡ length b
  length_loaded = length_card start card begun ∙ simp length_area

  loaded_else : Elsewhere loaded b
  loaded_else i (inl l) p u = go (dec_lt i 2)
    where
      was : (get_or b 1 0 ≡ u16_at b 1 % 256) × (get_or b 2 0 ≡ u16_at b 1 / 256 % 256)
      was = of_u16 b 1 ok

      size : length card ≡ u16_at b 1
      size = ap length (part_listed b card_at (u16_at b 1) (omega (arith, long, k.low))) ∙ length_listed _ (u16_at b 1)

      go : Dec (i < 2) → get_or loaded i 0 ≡ get_or b i 0
      go (yes m) =
          let e : get_or loaded 1 0 ≡ get_or b 1 0 = omega (arith, card_head start card begun 1 (lit< tt), size, was.0) in
          let q : 1 ≡ i = omega arith in
          subst (λ j. get_or loaded j 0 ≡ get_or b j 0) q e
      go (no m) =
          let e : get_or loaded 2 0 ≡ get_or b 2 0 = omega (arith, card_head start card begun 2 (lit< tt), size, was.1) in
          let q : 2 ≡ i = omega arith in
          subst (λ j. get_or loaded j 0 ≡ get_or b j 0) q e
  loaded_else i (inr l) p u = go (dec_lt i card_to)
    where
      go : Dec (i < card_to) → get_or loaded i 0 ≡ get_or b i 0
      go (yes m) =
          let j = i - card_at in
          let q : card_at + j ≡ i = omega arith in
          subst (λ x. get_or loaded x 0 ≡ get_or b x 0) q (card_at_lem start card begun j (omega arith)
          ∙ part_padded b card_at (u16_at b 1) j (λ n. clear_at b (card_at + u16_at b 1) card_to k.empty (card_at + j) (omega arith) (omega arith)))
      go (no m) = card_past start card begun i (omega arith) (simp length_area u) ∙ zeroed_past b long ok i (omega (arith, card_last)) u

  -- a card that was not rested: one call left it
  card_left : get_or b 0 0 ≡ 1 → fitting b 0 0 ≡ true → Left b
  unfolding bytes_after
  card_left z f =
      let clean = fitting_none b 0 0 f in
      left_by_lem b long ok (to Load card ∷ []) (more_given Load card [] (part_bytes b ok card_at (u16_at b 1)) none_given)
      (load_done.0
      ∙ same_bytes loaded b length_loaded (card_state start card begun ∙ sym z)
      (λ i l. card_none start card begun (older_at + i) (omega arith) (omega arith) ∙ sym (clean.0 i (omega arith) l))
      (λ i l. card_none start card begun (last_at + i) (omega arith) (omega arith) ∙ sym (clean.1 i (omega arith) l))
      loaded_else)

  -- it rested by a vector

  loaded_long : session_length ≤ length loaded
  loaded_long = omega (arith, length_loaded, long)

  abbrev rested : List ℕ → List ℕ
  rested v = rooms loaded 2 (0 ∷ []) v

  rest_done : (v : List ℕ) → Bytes v → Vector (inputs c) v → ((host_move Rest loaded v).bytes ≡ rested v) × Holding (rested v) (at_rest c v)
  rest_done v g w =
      let done = call_done Rest loaded v (session_of c) load_done.1 g 0 (at_rest c v) (rest_taken c v w) in
      (done.0 ∙ rest_rooms loaded v, subst (λ x. Holding x (at_rest c v)) (rest_rooms loaded v) done.1)

  length_rested : (v : List ℕ) → length (rested v) ≡ length b
  length_rested v = length_rooms loaded 2 (0 ∷ []) v ∙ length_loaded

  rested_else : (v : List ℕ) → Elsewhere (rested v) b
  rested_else v i o p u = kept_at loaded 2 (0 ∷ []) v loaded_long i o p (omega (arith, length_loaded, u)) ∙ loaded_else i o p u

  -- a card at rest: two calls left it
  rest_left : get_or b 0 0 ≡ 2 → fitting b 0 (inputs c) ≡ true → Vector (inputs c) last → Left b
  unfolding bytes_after
  rest_left z f w =
      let clean = fitting_none b 0 (inputs c) f in
      let bytes = part_bytes b ok last_at (inputs c) in
      left_by_lem b long ok (to Load card ∷ to Rest last ∷ [])
      (more_given Load card (to Rest last ∷ []) (part_bytes b ok card_at (u16_at b 1)) (more_given Rest last [] bytes none_given))
      (ap (λ x. (host_move Rest x last).bytes) load_done.0 ∙ (rest_done last bytes w).0
      ∙ same_bytes (rested last) b (length_rested last) (rooms_state loaded 2 (0 ∷ []) last loaded_long ∙ sym z)
      (λ i l. rooms_older loaded 2 (0 ∷ []) last loaded_long i l ∙ zero_byte i ∙ sym (clean.0 i (omega arith) l))
      (λ i l. rooms_last loaded 2 (0 ∷ []) last loaded_long i l ∙ part_padded b last_at (inputs c) i (λ m. clean.1 i m l))
      (rested_else last))

  -- and moved by another

  abbrev before : List ℕ
  before = rested older

  before_long : session_length ≤ length before
  before_long = omega (arith, length_rested older, long)

  module _ (engine : Engine) where
    abbrev moved : List ℕ
    moved = rooms before (mark_of engine) (last_room before) last

    move_done : Vector (inputs c) older → Vector (inputs c) last → (host_move (ByEngine engine) before last).bytes ≡ moved
    move_done w u =
        (call_done (ByEngine engine) before last (at_rest c older) (rest_done older (part_bytes b ok older_at (inputs c)) w).1 (part_bytes b ok last_at (inputs c))
        (count_by engine (at_rest c older)) (after_both c older last) (both_taken engine c older last k.accepted u)).0
        ∙ vector_rooms engine before last

    -- a card that a vector moved: three calls left it
    moved_left : get_or b 0 0 ≡ mark_of engine → fitting b (inputs c) (inputs c) ≡ true → Vector (inputs c) older → Vector (inputs c) last → Left b
    unfolding bytes_after
    moved_left z f w u =
        let clean = fitting_none b (inputs c) (inputs c) f in
        let first = part_bytes b ok older_at (inputs c) in
        let second = part_bytes b ok last_at (inputs c) in
        let by = ByEngine engine in
        let room = last_room before in
        left_by_lem b long ok (to Load card ∷ to Rest older ∷ to by last ∷ [])
        (more_given Load card (to Rest older ∷ to by last ∷ []) (part_bytes b ok card_at (u16_at b 1))
        (more_given Rest older (to by last ∷ []) first (more_given by last [] second none_given)))
        (ap (λ x. (host_move by (host_move Rest x older).bytes last).bytes) load_done.0
        ∙ ap (λ x. (host_move by x last).bytes) (rest_done older first w).0 ∙ move_done w u
        ∙ same_bytes moved b (length_rooms before (mark_of engine) room last ∙ length_rested older)
        (rooms_state before (mark_of engine) room last before_long ∙ sym z)
        (λ i l. rooms_older before (mark_of engine) room last before_long i l ∙ room_at before i l ∙ rooms_last loaded 2 (0 ∷ []) older loaded_long i l
        ∙ part_padded b older_at (inputs c) i (λ m. clean.0 i m l))
        (λ i l. rooms_last before (mark_of engine) room last before_long i l ∙ part_padded b last_at (inputs c) i (λ m. clean.1 i m l))
        (λ i o p q. kept_at before (mark_of engine) room last before_long i o p (omega (arith, length_rested older, q)) ∙ rested_else older i o p q))

-- Bytes that no call left answer 12

-- bytes from which a session is made again are bytes that some calls left of a slice of zeros
pub bytes_left : (b : List ℕ) → session_length ≤ length b → Bytes b → IsSome (made_again b) → Left b
bytes_left b long ok e = made (made_again b) refl e
  where
    go : (s : Session) → Kept b s → Left b
    go s (keeps_none z q) = none_left b long ok q
    go s (keeps_card c k z f) = card_left b long ok c k z f
    go s (keeps_rest c k z f w) = rest_left b long ok c k z f w
    go s (keeps_moved e c k z f w u) = moved_left b long ok c k e z f w u

    made : (m : Option Session) → made_again b ≡ m → IsSome m → Left b
    made None q e = cc
    made (Some s) q e = go s (opened b ok s q)

-- and of bytes that some calls left a session is made again
pub left_made : (b : List ℕ) → Left b → (session_length ≤ length b) × Bytes b × IsSome (made_again b)
left_made b l =
    let h = subst (λ x. Holding x (session_after none l.calls)) l.leave (all_follow l.calls l.zeros l.room l.bytes l.empty l.given).0 in
    (h.room, h.bytes, ap is_some h.made)

-- of bytes that no calls left of a slice whose first `session_length` bytes were 0, every call answers 12 and leaves everything as it was
pub unleft_12 : (b : List ℕ) → session_length ≤ length b → Bytes b → ¬ Left b → Unready b
unleft_12 b long ok n = go (made_again b) refl
  where
    is_12 : packed (Err NotReady) ≡ 12
    is_12 = refused_number NotReady

    go : (m : Option Session) → made_again b ≡ m → Unready b
    go (Some s) e = absurd (n (bytes_left b long ok (ap is_some e)))
    go None e = record {
      moves = λ how v. sym (move_broken how b v long e) ∙ ap (λ x. record { answer = x; bytes = b }) is_12;
      histories = λ words befores flags. sym (history_broken b words befores flags long e)
          ∙ ap (λ x. record { answer = x; words = words; befores = befores; flags = flags }) is_12;
      vectors = λ engine vs room. sym (vectors_broken engine b vs room long e) ∙ ap (λ x. record { answer = x; bytes = b; words = room }) is_12;
    }
