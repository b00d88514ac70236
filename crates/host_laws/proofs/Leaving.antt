-- The bytes that a call leaves, when it was done, hold the session that the operation left. Assumes nothing.
use mathlib.Core.Path.{◌≡◌, sym, ap, subst, ◌∙◌}
use mathlib.Core.Bool.{Bool, true, false≢true}
use mathlib.Core.List.{List, [], ◌∷◌}
use Prim.Native.Nat.{ℕ, ◌+◌, ◌≤◌, ◌<◌}
use native.Mathlib.Omega.{arith}
use lib.Dec.{lit<}
use lib.ListN.{length, get_or, get_or-eq_default}
use Rattle.lists.specs.Places.{part, clear}
use Rattle.rule.specs.Net.{Net}
use Rattle.inputs.specs.Inputs.{given}
use Rattle.inputs.specs.Allowed.{Vector}
use Rattle.card_records.specs.Bytes.{u16_at}
use Rattle.card_records.specs.Written.{Bytes}
use Rattle.card.specs.declared.Session.{Session}
use Rattle.card.specs.Session.{session_of}
use Rattle.card.specs.Allowed.{Allowed}
use Rattle.card.proofs.Kept.{session_holds}
use Rattle.card.proofs.Sessions.{none_loaded, none_rested, taken_unrested, inputs_few}
use Rattle.session.specs.Moves.{moved_by, rested_by}
use Rattle.session.proofs.SameCard.{SameCard, rest_afresh}
use Rattle.session.proofs.Restarts.{moved_again}
use Rattle.operations.specs.declared.Engine.{Engine}
use Rattle.host_bytes.specs.Layout.{older_at, last_at, card_at, longest_card, card_to, session_length}
use Rattle.host_bytes.specs.Kept.{last_room, mark_of, kept_card, kept_rest, kept_vector}
use Rattle.host_bytes.proofs.Bytes.{room_bytes, room_at, one_byte, zero_byte, mark_byte}
use Rattle.host_bytes.proofs.Rooms.{card_long, card_bytes_lem, card_state, card_length, card_clear, card_part, rooms, rooms_long, rooms_bytes, rooms_state, rooms_length, rooms_clear, rooms_card, rooms_given, rest_rooms, vector_rooms, room_moved}
use Rattle.host_laws.specs.Following.{Holding}
use Rattle.host_laws.proofs.Fits.{card_fitting, rooms_fit, fitting_none}
use Rattle.host_laws.proofs.Sizes.{card_size}
use Rattle.host_laws.proofs.Opened.{Carried, inputs, values, at_rest, after_both, Kept, keeps_none, keeps_card, keeps_rest, keeps_moved, closed, rest_same, both_same, both_keeps}

module _ (b v : List ℕ) (long : session_length ≤ length b) (bytes : Bytes b) (given-bytes : Bytes v) where
  -- A card that was just loaded

  loaded_kept : (a : Allowed v) → Kept (kept_card b v) (session_of a.card)
  loaded_kept a =
      let fits : length v ≤ longest_card = subst (λ x. length x ≤ longest_card) (sym a.bytes) (card_size a.card a.accepted.legible) in
      let e = card_length b v long fits in
      keeps_card a.card
      (record {
        low = subst (λ n. n ≤ longest_card) (sym e) fits;
        empty = subst (λ n. clear (kept_card b v) (card_at + n) card_to ≡ true) (sym e) (card_clear b v long fits);
        bytes = ap (part (kept_card b v) card_at) e ∙ card_part b v long fits ∙ a.bytes;
        accepted = a.accepted;
      })
      (card_state b v long) (card_fitting b v long)

  pub load_holds : (a : Allowed v) → Holding (kept_card b v) (session_of a.card)
  load_holds a =
      let h = card_bytes_lem b v long bytes given-bytes in
      record { room = card_long b v long; bytes = h; made = closed (kept_card b v) h (session_of a.card) (loaded_kept a) }

  -- The card stays where the state and the vectors are written

  carried_on : (k : ℕ) (o : List ℕ) (c : List Net) → Carried b c → Carried (rooms b k o v) c
  carried_on k o c d =
      let e = rooms_length b k o v long in
      let clean = rooms_clear b k o v long (card_at + u16_at b 1) (omega arith) d.empty in
      record {
        low = subst (λ n. n ≤ longest_card) (sym e) d.low;
        empty = subst (λ n. clear (rooms b k o v) (card_at + n) card_to ≡ true) (sym e) clean;
        bytes = ap (part (rooms b k o v) card_at) e ∙ rooms_card b k o v long (u16_at b 1) d.low ∙ d.bytes;
        accepted = d.accepted;
      }

  module _ (c : List Net) (d : Carried b c) (w : Vector (inputs c) v) where
    few : length v ≤ 256
    few = subst (λ n. n ≤ 256) (sym w.size) (inputs_few c d.accepted)

    past : (i : ℕ) → inputs c ≤ i → get_or v i 0 ≡ 0
    past i l = get_or-eq_default v 0 {n = i} (omega (arith, w.size))

    as_given : (k : ℕ) (o : List ℕ) → part (rooms b k o v) last_at (inputs c) ≡ v
    as_given k o = ap (part (rooms b k o v) last_at) (sym w.size) ∙ rooms_given b k o v long few

    -- A card that was just rested

    rested_kept : Kept (rooms b 2 (0 ∷ []) v) (at_rest c v)
    rested_kept =
        let e = as_given 2 (0 ∷ []) in
        subst (λ x. Kept (rooms b 2 (0 ∷ []) v) (at_rest c x)) e
        (keeps_rest c (carried_on 2 (0 ∷ []) c d) (rooms_state b 2 (0 ∷ []) v long)
        (rooms_fit b 2 (0 ∷ []) v long 0 (inputs c) (λ i l u. zero_byte i) (λ i l u. past i l)) (subst (Vector (inputs c)) (sym e) w))

    -- A card at rest that a vector just moved

    moved_kept : (engine : Engine) → ((i : ℕ) → inputs c ≤ i → i < 256 → get_or b (last_at + i) 0 ≡ 0) → Vector (inputs c) (part b last_at (inputs c))
        → Kept (rooms b (mark_of engine) (last_room b) v) (after_both c (part b last_at (inputs c)) v)
    moved_kept engine f u =
        let k = mark_of engine in
        let e = as_given k (last_room b) in
        let m = room_moved b k v long (inputs c) (inputs_few c d.accepted) in
        subst (λ x. Kept (rooms b k (last_room b) v) (after_both c x v)) m
        (subst (λ x. Kept (rooms b k (last_room b) v) (after_both c (part (rooms b k (last_room b) v) older_at (inputs c)) x)) e
        (keeps_moved engine c (carried_on k (last_room b) c d) (rooms_state b k (last_room b) v long)
        (rooms_fit b k (last_room b) v long (inputs c) (inputs c) (λ i l u. room_at b i u ∙ f i l u) (λ i l u. past i l))
        (subst (Vector (inputs c)) (sym m) u) (subst (Vector (inputs c)) (sym e) w)))

  -- whatever the session was

  rested_anew : (c : List Net) → Carried b c → (r : Bool) (s : Session) → SameCard (session_of c) r s → Vector s.inputs v
      → Kept (rooms b 2 (0 ∷ []) v) (rested_by s (given s.kinds v))
  rested_anew c d r s e w =
      subst (Kept (rooms b 2 (0 ∷ []) v))
      (sym (rest_afresh (session_of c) r s e (given s.kinds v) ∙ ap (λ x. rested_by (session_of c) (given x.kinds v)) e.card))
      (rested_kept c d (subst (λ x. Vector x.inputs v) e.card w))

  rest_kept : (s : Session) → Kept b s → s.loaded ≡ true → Vector s.inputs v → Kept (rooms b 2 (0 ∷ []) v) (rested_by s (given s.kinds v))
  rest_kept s (keeps_none z e) l w = absurd (false≢true (sym none_loaded ∙ l))
  rest_kept s (keeps_card c d z f) l w = rested_kept c d w
  rest_kept s (keeps_rest c d z f u) l w = rested_anew c d true s (rest_same c _) w
  rest_kept s (keeps_moved e c d z f u t) l w = rested_anew c d true s (both_keeps c _ _) w

  vector_kept : (engine : Engine) (s : Session) → Kept b s → s.rested ≡ true → Vector s.inputs v → Kept (rooms b (mark_of engine) (last_room b) v) (moved_by s (given s.kinds v))
  vector_kept engine s (keeps_none z e) l w = absurd (false≢true (sym none_rested ∙ l))
  vector_kept engine s (keeps_card c d z f) l w = absurd (false≢true (sym (taken_unrested c) ∙ l))
  vector_kept engine s (keeps_rest c d z f u) l w =
      let last = part b last_at (inputs c) in
      subst (Kept (rooms b (mark_of engine) (last_room b) v)) (sym (both_same c last v))
      (moved_kept c d (subst (λ x. Vector x.inputs v) (rest_same c last).card w) engine (fitting_none b 0 (inputs c) f).1 u)
  vector_kept engine s (keeps_moved e c d z f u t) l w =
      let o = part b older_at (inputs c) in
      let last = part b last_at (inputs c) in
      let same = both_keeps c o last in
      subst (Kept (rooms b (mark_of engine) (last_room b) v))
      (sym (ap (λ x. moved_by s (given x.kinds v)) same.card
      ∙ moved_again (session_of c) (session_holds c d.accepted) (values c o) (values c last) (values c v)))
      (moved_kept c d (subst (λ x. Vector x.inputs v) same.card w) engine (fitting_none b (inputs c) (inputs c) f).1 t)

  pub rest_holds : (s : Session) → Kept b s → s.loaded ≡ true → Vector s.inputs v → Holding (kept_rest b v) (rested_by s (given s.kinds v))
  rest_holds s k l w =
      let o : List ℕ = 0 ∷ [] in
      let h = rooms_bytes b 2 o v long bytes (lit< tt) (one_byte 0 (lit< tt)) given-bytes in
      subst (λ x. Holding x (rested_by s (given s.kinds v))) (sym (rest_rooms b v))
      (record { room = rooms_long b 2 o v long; bytes = h; made = closed (rooms b 2 o v) h (rested_by s (given s.kinds v)) (rest_kept s k l w) })

  pub vector_holds : (engine : Engine) (s : Session) → Kept b s → s.rested ≡ true → Vector s.inputs v → Holding (kept_vector engine b v) (moved_by s (given s.kinds v))
  vector_holds engine s k l w =
      let m = mark_of engine in
      let o = last_room b in
      let h = rooms_bytes b m o v long bytes (mark_byte engine) (room_bytes b bytes) given-bytes in
      subst (λ x. Holding x (moved_by s (given s.kinds v))) (sym (vector_rooms engine b v))
      (record { room = rooms_long b m o v long; bytes = h; made = closed (rooms b m o v) h (moved_by s (given s.kinds v)) (vector_kept engine s k l w) })
