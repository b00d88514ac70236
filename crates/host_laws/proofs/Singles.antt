-- Many vectors in one call leave the bytes that the same vectors leave one by one, by the same engine, and so the session that the library's own calls leave; the words
-- of each vector are those of the session after it; a refused call leaves bytes and room as they were. Assumes nothing.
use mathlib.Core.Path.{◌≡◌, refl, sym, ap, subst, ◌∙◌}
use mathlib.Core.Bool.{true}
use mathlib.Core.List.{List, [], ◌∷◌, ◌++◌}
use Prim.Native.Nat.{ℕ, zero, suc, ◌+◌, ◌*◌, ◌/◌, ◌%◌, ◌≤◌, ◌<◌}
use native.Mathlib.Nat.{le_of_eq, le-div_iff_mul-le, mul-le-mul_right}
use native.Mathlib.Omega.{arith}
use lib.ListN.{length, get_or}
use Rattle.lists.specs.Entries.{every}
use Rattle.lists.specs.Places.{part}
use Rattle.lists.proofs.Listed.{listed_none, listed_more}
use Rattle.lists.proofs.Places.{turn_fits}
use Rattle.rule.specs.Answers.{Answer}
use Rattle.std.specs.Prelude.{Result, Ok, Err}
use Rattle.rule.specs.declared.Refusal.{Refusal}
use Rattle.inputs.specs.Inputs.{byte_fits}
use Rattle.card_records.specs.Written.{Bytes}
use Rattle.card.specs.declared.Session.{Session}
use Rattle.card.proofs.Kept.{inputs_some}
use Rattle.session.specs.Good.{Good}
use Rattle.history.specs.Told.{Roomy}
use Rattle.history.proofs.Histories.{history_0, history_shows}
use Rattle.operations.specs.declared.Engine.{Engine}
use Rattle.operations.specs.declared.Engine.TheVariants.{Fields}
use Rattle.operations.specs.declared.Move.TheVariants.{Vector}
use Rattle.operations.specs.Operated.{vector_by, operated}
use Rattle.host_bytes.specs.Layout.{session_length}
use Rattle.host_bytes.specs.Kept.{kept_vector}
use Rattle.host_bytes.proofs.Bytes.{part_bytes}
use Rattle.host_bytes.proofs.Rooms.{length_kept, kept_forgets}
use Rattle.host_many.specs.Many.{many_by, many_judged, kept_many}
use Rattle.host_many.proofs.Words.{run_words, run_past}
use Rattle.host_many.proofs.Many.{many_length, many_asks, many_left, each_count, many_same}
use Rattle.host.specs.Calls.{packed, session_in, left_by, host_move, host_history}
use Rattle.host.specs.Vectors.{many_done, ManyShown, vectors_in, host_vectors}
use Rattle.host.proofs.Packing.{done_0}
use Rattle.host.proofs.Vectors.{vectors_done}
use Rattle.host_laws.specs.Following.{Holding, HostCall, bytes_after, session_after, each_vector}
use Rattle.host_laws.proofs.Following.{held_good, held_in, move_is, move_follows, history_follows}

-- What vectors keep, one after another

module _ (engine : Engine) where
  -- the bytes that the first j of many vectors leave, each kept after the one before it
  kept_each : List ℕ → List ℕ → ℕ → ℕ → List ℕ
  kept_each b vs n zero = b
  kept_each b vs n (suc j) = kept_vector engine (kept_each b vs n j) (part vs (j * n) n)

  length_each : (b vs : List ℕ) (n j : ℕ) → length (kept_each b vs n j) ≡ length b
  unfolding kept_each
  length_each b vs n zero = refl
  length_each b vs n (suc j) = length_kept engine (kept_each b vs n j) (part vs (j * n) n) ∙ length_each b vs n j

  -- only the last two are seen
  last_two : (b vs : List ℕ) (n : ℕ) → session_length ≤ length b → (j : ℕ) (u w : List ℕ)
      → kept_vector engine (kept_vector engine (kept_each b vs n j) u) w ≡ kept_vector engine (kept_vector engine b u) w
  unfolding kept_each
  last_two b vs n long zero u w = refl
  last_two b vs n long (suc j) u w =
      kept_forgets engine (kept_each b vs n j) (part vs (j * n) n) u w (omega (arith, length_each b vs n j, long)) ∙ last_two b vs n long j u w

  each_many : (b vs : List ℕ) (n j : ℕ) → session_length ≤ length b → kept_each b vs n j ≡ kept_many engine b vs n j
  unfolding kept_many kept_each
  each_many b vs n zero long = refl
  each_many b vs n (suc zero) long = refl
  each_many b vs n (suc (suc j)) long = last_two b vs n long j (part vs (j * n) n) (part vs (suc j * n) n)

-- Calls one after another

bytes_append : (b : List ℕ) (xs ys : List HostCall) → bytes_after b (xs ++ ys) ≡ bytes_after (bytes_after b xs) ys
unfolding bytes_after
bytes_append b [] ys = refl
bytes_append b (x ∷ xs) ys = bytes_append (host_move x.how b x.given).bytes xs ys

session_append : (s : Session) (xs ys : List HostCall) → session_after s (xs ++ ys) ≡ session_after (session_after s xs) ys
unfolding session_after
session_append s [] ys = refl
session_append s (x ∷ xs) ys = session_append (operated x.how s x.given).session xs ys

module _ (engine : Engine) (vs : List ℕ) (n : ℕ) where
  abbrev call : ℕ → HostCall
  call j = record { how = Vector engine; given = part vs (j * n) n }

  each_more : (j : ℕ) → each_vector engine vs n (suc j) ≡ each_vector engine vs n j ++ (call j ∷ [])
  unfolding each_vector
  each_more j = let e : suc j ≡ j + 1 = omega arith in ap (each_vector engine vs n) e ∙ listed_more call j

  each_none : each_vector engine vs n 0 ≡ []
  unfolding each_vector
  each_none = listed_none call

  -- the session that many vectors leave is the one that the library leaves, called for each of them
  pub run_session : (s : Session) (room : List ℕ) (j : ℕ) → (many_by engine s vs n j room).session ≡ session_after s (each_vector engine vs n j)
  unfolding many_by session_after
  run_session s room zero = sym (ap (session_after s) each_none)
  run_session s room (suc j) =
      ap (λ z. (vector_by engine z (part vs (j * n) n)).session) (run_session s room j)
      ∙ sym (ap (session_after s) (each_more j) ∙ session_append s (each_vector engine vs n j) (call j ∷ []))

module _ (engine : Engine) (b : List ℕ) (s : Session) (h : Holding b s) (vs room : List ℕ) (ok : Bytes vs) (r : s.rested ≡ true) (fits : every byte_fits vs ≡ true) where
  abbrev n : ℕ
  n = s.inputs

  -- each call holds the session that the vectors so far leave, and is done
  each_holds : (j : ℕ) → j * n ≤ length vs
      → Holding (kept_each engine b vs n j) (many_by engine s vs n j room).session × (bytes_after b (each_vector engine vs n j) ≡ kept_each engine b vs n j)
  unfolding many_by bytes_after kept_each
  each_holds zero l = (h, ap (bytes_after b) (each_none engine vs n))
  each_holds (suc j) l =
      let fit : j * n + n ≤ length vs = turn_fits j (suc j) n (length vs) (omega arith) l in
      let so_far = each_holds j (omega (arith, fit)) in
      let z = (many_by engine s vs n j room).session in
      let v = part vs (j * n) n in
      let bytes = part_bytes vs ok (j * n) n in
      let how = Vector engine in
      let b' = kept_each engine b vs n j in
      let done = each_count engine s (held_good b s h) r vs room fits (suc j) j (omega arith) l in
      let kept : (host_move how b' v).bytes ≡ kept_vector engine b' v =
      ap (λ x. x.bytes) (move_is b' z so_far.0 v bytes how) ∙ ap (λ a. (left_by how a b' v).bytes) done in
      let last : bytes_after b (each_vector engine vs n (suc j)) ≡ bytes_after (bytes_after b (each_vector engine vs n j)) (call engine vs n j ∷ []) =
      ap (bytes_after b) (each_more engine vs n j) ∙ bytes_append b (each_vector engine vs n j) (call engine vs n j ∷ []) in (
        subst (λ x. Holding x (vector_by engine z v).session) kept (move_follows how b' v z so_far.0 bytes).0,
        last ∙ ap (λ x. (host_move how x v).bytes) so_far.1 ∙ kept,
      )

-- a refused call leaves every byte, and the room, as they were, of any bytes
pub many_refused : (engine : Engine) (b vs room : List ℕ) → ¬ ((host_vectors engine b vs room).answer % 256 ≡ 0)
    → ((host_vectors engine b vs room).bytes ≡ b) × ((host_vectors engine b vs room).words ≡ room)
unfolding host_vectors
many_refused engine b vs room x = go (session_in b) x
  where
    done : (s : Session) (a : Answer) → ¬ ((many_done engine s b vs room a).answer % 256 ≡ 0)
        → ((many_done engine s b vs room a).bytes ≡ b) × ((many_done engine s b vs room a).words ≡ room)
    done s (Err why) x = (refl, refl)
    done s (Ok j) x = absurd (x (done_0 (many_by engine s vs s.inputs j room).count))

    go : (m : Result Session Refusal) → ¬ ((vectors_in engine b vs room m).answer % 256 ≡ 0)
        → ((vectors_in engine b vs room m).bytes ≡ b) × ((vectors_in engine b vs room m).words ≡ room)
    go (Err why) x = (refl, refl)
    go (Ok s) x = done s (many_judged s vs (length room)) x

-- a history shows the words of the session that the bytes hold
words_shown : (b : List ℕ) (s : Session) → Holding b s → s.rested ≡ true → (words befores flags : List ℕ) → Roomy s.nets words befores flags
    → (n : ℕ) → n < s.nets → get_or (host_history b words befores flags).words n 0 ≡ get_or s.words n 0
words_shown b s h r words befores flags fits n l =
    ap (λ t. get_or t.words n 0) (history_follows b s h words befores flags)
    ∙ (history_shows s (held_good b s h) r words befores flags ((history_0 s words befores flags).1 (r, fits)) n l).0

-- The call that runs many vectors

vectors_are : (engine : Engine) (b vs room : List ℕ) (s : Session) → Holding b s → (k : ℕ) → many_judged s vs (length room) ≡ Ok k
    → host_vectors engine b vs room ≡ many_done engine s b vs room (Ok k)
vectors_are engine b vs room s h k e = sym (vectors_done engine b vs room s (held_in b s h)) ∙ ap (many_done engine s b vs room) e

module _ (engine : Engine) (b vs room : List ℕ) (s : Session) (h : Holding b s) (k : ℕ) (e : many_judged s vs (length room) ≡ Ok k) where
  abbrev shown : ManyShown
  shown = host_vectors engine b vs room

  good : Good s
  good = held_good b s h

  asks : (s.rested ≡ true) × (every byte_fits vs ≡ true) × (k ≡ length vs / s.inputs) × (k * s.nets ≤ length room)
  asks = many_asks s vs (length room) k e

  few : k * s.inputs ≤ length vs
  few = (le-div_iff_mul-le (inputs_some s (good.card (good.rest asks.0).0)).0).0 (le_of_eq asks.2)

  is_done : shown ≡ many_done engine s b vs room (Ok k)
  is_done = vectors_are engine b vs room s h k e

  words_are : shown.words ≡ (many_by engine s vs s.inputs k room).words
  words_are = ap (λ x. x.words) is_done

  -- the first j vectors, a call for each: the bytes hold the session, and it is rested and has as many nets
  after_each : Bytes vs → (j : ℕ) → j ≤ k
      → (let t = session_after s (each_vector engine vs s.inputs j) in
      let left = bytes_after b (each_vector engine vs s.inputs j) in
      Holding left t × (left ≡ kept_each engine b vs s.inputs j) × (t.rested ≡ true) × (t.nets ≡ s.nets))
  after_each ok j l =
      let fit = j_fits in
      let each = each_holds engine b s h vs room ok asks.0 asks.1 j fit in
      let left = many_left engine s good asks.0 vs room asks.1 j fit in
      subst (λ t. Holding (bytes_after b (each_vector engine vs s.inputs j)) t
      × (bytes_after b (each_vector engine vs s.inputs j) ≡ kept_each engine b vs s.inputs j) × (t.rested ≡ true) × (t.nets ≡ s.nets)) (run_session engine vs s.inputs s room j) (
        subst (λ x. Holding x (many_by engine s vs s.inputs j room).session) (sym each.1) each.0,
        each.1,
        left.same.rests,
        ap (λ t. t.nets) left.same.card,
      )
    where
      j_fits : j * s.inputs ≤ length vs
      j_fits = let more : j * s.inputs ≤ k * s.inputs = mul-le-mul_right s.inputs l in omega (arith, more, few)

  -- it leaves the bytes that the same vectors leave one by one, and they hold the session that the library's own operation leaves, vector by vector
  pub many_follow : Bytes vs → (shown.bytes ≡ bytes_after b (each_vector engine vs s.inputs k)) × Holding shown.bytes (session_after s (each_vector engine vs s.inputs k))
  many_follow ok =
      let after = after_each ok k (le_of_eq refl) in
      let left = ap (λ x. x.bytes) is_done ∙ sym (each_many engine b vs s.inputs k h.room) ∙ sym after.1 in
      (left, subst (λ x. Holding x (session_after s (each_vector engine vs s.inputs k))) (sym left) after.0)

  -- the words that the call leaves for vector j are the words of the session after the first j + 1 vectors, one by one by the same engine
  pub many_words : (j n : ℕ) → j < k → n < s.nets
      → get_or shown.words (j * s.nets + n) 0 ≡ get_or (session_after s (each_vector engine vs s.inputs (j + 1))).words n 0
  many_words j n l u =
      let q : suc j ≡ j + 1 = omega arith in
      ap (λ w. get_or w (j * s.nets + n) 0) words_are ∙ run_words engine s vs s.inputs room k asks.3 j n l u
      ∙ ap (λ x. get_or x.words n 0) (run_session engine vs s.inputs s room (suc j) ∙ ap (λ i. session_after s (each_vector engine vs s.inputs i)) q)

  -- and they are the words that a history shows of the bytes after the first j + 1 vectors, a call for each
  pub many_shown : Bytes vs → (words befores flags : List ℕ) → s.nets ≤ length words → s.nets ≤ length befores → s.nets ≤ length flags
      → (j n : ℕ) → j < k → n < s.nets
      → get_or shown.words (j * s.nets + n) 0
      ≡ get_or (host_history (bytes_after b (each_vector engine vs s.inputs (j + 1))) words befores flags).words n 0
  many_shown ok words befores flags x y z j n l u =
      let after = after_each ok (j + 1) (omega arith) in
      let same = after.3 in
      many_words j n l u
      ∙ sym (words_shown (bytes_after b (each_vector engine vs s.inputs (j + 1))) (session_after s (each_vector engine vs s.inputs (j + 1))) after.0 after.2 words befores flags
      (record { for_words = omega (arith, same, x); for_befores = omega (arith, same, y); for_flags = omega (arith, same, z) }) n (omega (arith, same, u)))

  -- the room past the words of all vectors stays as it was
  pub many_past : (i : ℕ) → k * s.nets ≤ i → get_or shown.words i 0 ≡ get_or room i 0
  many_past i l = ap (λ w. get_or w i 0) words_are ∙ run_past engine s vs s.inputs room k i l

  -- no entry more, and none less
  pub many_room : length shown.words ≡ length room
  many_room = ap length words_are ∙ many_length engine s vs s.inputs k room

  -- the count is that of every one of the vectors, run by itself
  pub many_count : (j : ℕ) → j < k
      → shown.answer ≡ packed (vector_by engine (session_after s (each_vector engine vs s.inputs j)) (part vs (j * s.inputs) s.inputs)).answer
  many_count j l =
      ap (λ x. x.answer) is_done ∙ ap packed (sym (each_count engine s good asks.0 vs room asks.1 k j l few))
      ∙ ap (λ z. packed (vector_by engine z (part vs (j * s.inputs) s.inputs)).answer) (run_session engine vs s.inputs s room j)

  -- and the words are those of the other engine
  pub many_engines : shown.words ≡ (host_vectors Fields b vs room).words
  many_engines = words_are ∙ (many_same engine s good asks.0 vs room asks.1 k few).1 ∙ sym (ap (λ x. x.words) (vectors_are Fields b vs room s h k e))
