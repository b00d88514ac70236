-- Calls on lent bytes follow the library's own operations: over any sequence of calls, from a slice of zeros on, the bytes hold the session that
-- the operations leave, and each call answers what the operation answers. A refused call leaves every byte. Assumes nothing.
use mathlib.Core.Path.{◌≡◌, refl, sym, ap, ap₂, subst, ◌∙◌}
use mathlib.Core.Bool.{Bool, true, false, cond, ◌&&◌}
use mathlib.Core.List.Memᴰ
use mathlib.Core.List.{List, [], ◌∷◌}
use Prim.Native.Nat.{ℕ, ◌+◌, ◌*◌, ◌%◌, ◌≤◌, ◌<◌}
use native.Mathlib.Omega.{arith}
use lib.Dec.{leb, lit<, lit≤}
use lib.ListN.{length, get_or}
use Rattle.lists.specs.Entries.{◌∈◌}
use Rattle.lists.proofs.Places.{clear_make}
use Rattle.rule.specs.declared.Refusal.TheVariants.{NotReady, NoRoom}
use Rattle.rule.specs.Answers.{Answer}
use Rattle.std.specs.Prelude.{Result, Ok, Err}
use Rattle.rule.specs.declared.Refusal.{Refusal}
use Rattle.rule.specs.Numbers.{answer_number, answer_count}
use Rattle.inputs.specs.Inputs.{given}
use Rattle.card_records.specs.Written.{Bytes}
use Rattle.card.specs.declared.Session.{Session}
use Rattle.card.specs.Loaded.{Loaded}
use Rattle.card.specs.Session.{none}
use Rattle.card.specs.Load.{load_of}
use Rattle.card.proofs.Kept.{nets_are, card_fits, card_steps}
use Rattle.card.proofs.Verdicts.{ruled as load-ruled, Ruling as LoadRuling, refuses as load_refuses, takes as load_takes}
use Rattle.session.specs.Moved.{Moved}
use Rattle.session.specs.Good.{Good}
use Rattle.session.specs.Moves.{moved_by, rested_by, rest_of}
use Rattle.session.proofs.Refusals.{Ruling, refuses, takes, rest_ruled}
use Rattle.history.specs.Told.{Told, history_of}
use Rattle.history.proofs.Histories.{history_refused}
use Rattle.operations.specs.declared.Engine.{Engine}
use Rattle.operations.specs.declared.Engine.TheVariants.{Fields, Steps}
use Rattle.operations.specs.declared.Move.{Move}
use Rattle.operations.specs.declared.Move.TheVariants.{Load, Rest, Vector}
use Rattle.operations.specs.Operated.{vector_by, operated}
use Rattle.operations.proofs.Engines.{count_by, by_ruled}
use Rattle.host_bytes.specs.Layout.{session_length}
use Rattle.host_made.proofs.Making.{again_good}
use Rattle.host.specs.Calls.{packed, session_in, left_by, move_in, host_move, history_in, host_history}
use Rattle.host.proofs.Packing.{done_0, packed_few}
use Rattle.host.proofs.Answering.{in_held, move_left, history_shown}
use Rattle.host_laws.specs.Following.{Holding, HostCall, bytes_after, session_after, host_answers, library_answers}
use Rattle.host_laws.proofs.Opened.{Kept, keeps_none, opened, closed}
use Rattle.host_laws.proofs.Leaving.{load_holds, rest_holds, vector_holds}

-- a slice of zeros is the empty session
pub zeros_hold : (b : List ℕ) → session_length ≤ length b → Bytes b → ((i : ℕ) → i < session_length → get_or b i 0 ≡ 0) → Holding b none
zeros_hold b l h z = record { room = l; bytes = h; made = closed b h none (keeps_none (z 0 (lit< tt)) (clear_make b 0 session_length (λ i o u. z i u))) }

-- a refused call leaves every byte as it was, of any bytes
pub refused_kept : (how : Move) (b v : List ℕ) → ¬ ((host_move how b v).answer % 256 ≡ 0) → (host_move how b v).bytes ≡ b
unfolding host_move
refused_kept how b v n = go (session_in b) n
  where
    left : (a : Answer) → ¬ ((left_by how a b v).answer % 256 ≡ 0) → (left_by how a b v).bytes ≡ b
    left (Err why) n = refl
    left (Ok count) n = absurd (n (done_0 count))

    go : (x : Result Session Refusal) → ¬ ((move_in how b v x).answer % 256 ≡ 0) → (move_in how b v x).bytes ≡ b
    go (Err why) n = refl
    go (Ok s) n = left (operated how s v).answer n

-- and a refused history leaves the three slices
pub history_kept : (b words befores flags : List ℕ) → ¬ ((host_history b words befores flags).answer % 256 ≡ 0)
    → ((host_history b words befores flags).words ≡ words) × ((host_history b words befores flags).befores ≡ befores) × ((host_history b words befores flags).flags ≡ flags)
unfolding host_history
history_kept b words befores flags bad = go (session_in b) bad
  where
    refused : (s : Session) (h : Told) → history_of s words befores flags ≡ h → (a : Answer) → h.answer ≡ a → ¬ (packed a % 256 ≡ 0)
        → (h.words ≡ words) × (h.befores ≡ befores) × (h.flags ≡ flags)
    refused s h q (Err why) e x =
        let same = sym q ∙ history_refused s words befores flags why (ap (λ k. k.answer) q ∙ e) in
        (ap (λ k. k.words) same, ap (λ k. k.befores) same, ap (λ k. k.flags) same)
    refused s h q (Ok count) e x = absurd (x (done_0 count))

    go : (x : Result Session Refusal) → ¬ ((history_in words befores flags x).answer % 256 ≡ 0)
        → ((history_in words befores flags x).words ≡ words) × ((history_in words befores flags x).befores ≡ befores) × ((history_in words befores flags x).flags ≡ flags)
    go (Err why) n = (refl, refl, refl)
    go (Ok s) n = let h = history_of s words befores flags in refused s h refl h.answer refl n

-- One call

module _ (b : List ℕ) (s : Session) (h : Holding b s) where
  -- the session that bytes hold meets the rule of sessions
  pub held_good : Good s
  held_good = again_good b h.bytes s h.made

  -- and it is what the calls find in them
  pub held_in : session_in b ≡ Ok s
  held_in = in_held b s h.room h.made

  held_kept : Kept b s
  held_kept = opened b h.bytes s h.made

  module _ (v : List ℕ) (g : Bytes v) where
    pub move_is : (how : Move) → host_move how b v ≡ left_by how (operated how s v).answer b v
    move_is how = sym (move_left how b v s held_in)

    left_answer : (how : Move) (a : Answer) → (left_by how a b v).answer ≡ packed a
    left_answer how (Err why) = refl
    left_answer how (Ok count) = refl

    -- what is left of the bytes holds the session that was left
    abbrev Follows : Move → Moved → Type 0
    Follows how m = Holding (left_by how m.answer b v).bytes m.session

    load_follows : Follows Load (operated Load s v)
    load_follows = go (load_of s v) (load-ruled s v g)
      where
        go : (x : Loaded) → LoadRuling s v x → Follows Load (record { answer = x.answer; session = x.session })
        go x (load_refuses r w) = h
        go x (load_takes a) = load_holds b v h.room h.bytes g a

    rest_follows : Follows Rest (rest_of s v)
    rest_follows = go (rest_of s v) (rest_ruled s v)
      where
        go : (x : Moved) → Ruling s.loaded s v 0 (rested_by s (given s.kinds v)) x → Follows Rest x
        go x (refuses r w) = h
        go x (takes l w) = rest_holds b v h.room h.bytes g s held_kept l w

    vector_follows : (engine : Engine) → Follows (Vector engine) (vector_by engine s v)
    vector_follows engine = go (vector_by engine s v) (by_ruled engine s held_good v)
      where
        go : (x : Moved) → Ruling s.rested s v (count_by engine s) (moved_by s (given s.kinds v)) x → Follows (Vector engine) x
        go x (refuses r w) = h
        go x (takes l w) = vector_holds b v h.room h.bytes g engine s held_kept l w

    follows : (how : Move) → Follows how (operated how s v)
    follows Load = load_follows
    follows Rest = rest_follows
    follows (Vector engine) = vector_follows engine

-- the bytes that a call leaves hold the session that the operation leaves, and the call answers what the operation answers
pub move_follows : (how : Move) (b v : List ℕ) (s : Session) → Holding b s → Bytes v
    → Holding (host_move how b v).bytes (operated how s v).session × ((host_move how b v).answer ≡ packed (operated how s v).answer)
move_follows how b v s h g =
    let e = move_is b s h v g how in
    let left = subst (λ x. Holding x.bytes (operated how s v).session) (sym e) (follows b s h v g how) in
    (left, ap (λ x. x.answer) e ∙ left_answer b s h v g how (operated how s v).answer)

-- and so do the calls of any sequence
pub calls_follow : (cs : List HostCall) (b : List ℕ) (s : Session) → Holding b s → ((c : HostCall) → c ∈ cs → Bytes c.given)
    → Holding (bytes_after b cs) (session_after s cs) × (host_answers b cs ≡ library_answers s cs)
unfolding bytes_after session_after host_answers library_answers
calls_follow [] b s h g = (h, refl)
calls_follow (c ∷ cs) b s h g =
    let m = move_follows c.how b c.given s h (g c (Memᴰ.head refl)) in
    let left = (host_move c.how b c.given).bytes in
    let rest = calls_follow cs left (operated c.how s c.given).session m.0 (λ x i. g x (Memᴰ.tail i)) in
    (rest.0, ap₂ ◌∷◌ m.1 rest.1)

-- from a slice of zeros on, which is the empty session
pub all_follow : (cs : List HostCall) (b : List ℕ) → session_length ≤ length b → Bytes b → ((i : ℕ) → i < session_length → get_or b i 0 ≡ 0)
    → ((c : HostCall) → c ∈ cs → Bytes c.given)
    → Holding (bytes_after b cs) (session_after none cs) × (host_answers b cs ≡ library_answers none cs)
all_follow cs b l h z g = calls_follow cs b none (zeros_hold b l h z) g

-- a history is shown of the session that the bytes hold
pub history_follows : (b : List ℕ) (s : Session) → Holding b s → (words befores flags : List ℕ)
    → host_history b words befores flags
    ≡ (let t = history_of s words befores flags in record { answer = packed t.answer; words = t.words; befores = t.befores; flags = t.flags })
history_follows b s h words befores flags = sym (history_shown b words befores flags s (history_of s words befores flags) (held_in b s h) refl)

-- The count is whole in the number that is handed back

module _ (s : Session) (v : List ℕ) where
  few_load : Bytes v → answer_count (operated Load s v).answer ≤ 4096
  few_load g = go (load_of s v) (load-ruled s v g)
    where
      go : (x : Loaded) → LoadRuling s v x → answer_count x.answer ≤ 4096
      go x (load_refuses r w) = lit≤ tt
      go x (load_takes a) = omega (arith, a.accepted.legible.few)

  few_ruled : (ready : Bool) (count : ℕ) (next : Session) (x : Moved) → Ruling ready s v count next x → (ready ≡ true → count ≤ 4096) → answer_count x.answer ≤ 4096
  few_ruled ready count next x (refuses r w) few = lit≤ tt
  few_ruled ready count next x (takes l w) few = few l

  few_by : (engine : Engine) → Good s → s.rested ≡ true → count_by engine s ≤ 4096
  few_by Fields g l = lit≤ tt
  few_by Steps g l = card_steps s (g.card (g.rest l).0)

  few_counted : (how : Move) → Good s → Bytes v → answer_count (operated how s v).answer ≤ 4096
  few_counted Load g h = few_load h
  few_counted Rest g h = few_ruled s.loaded 0 (rested_by s (given s.kinds v)) (rest_of s v) (rest_ruled s v) (λ l. lit≤ tt)
  few_counted (Vector engine) g h = few_ruled s.rested (count_by engine s) (moved_by s (given s.kinds v)) (vector_by engine s v) (by_ruled engine s g v) (few_by engine g)

  pub packed_plain : (how : Move) → Good s → Bytes v
      → packed (operated how s v).answer ≡ answer_number (operated how s v).answer + 256 * answer_count (operated how s v).answer
  packed_plain how g h = packed_few (operated how s v).answer (few_counted how g h)

-- a history's count is the number of nets
module _ (s : Session) (g : Good s) (words befores flags : List ℕ) where
  few_shown : answer_count (history_of s words befores flags).answer ≤ 4096
  unfolding history_of
  few_shown = go s.rested refl (leb s.nets (length words) && (leb s.nets (length befores) && leb s.nets (length flags))) _ _ _
    where
      kept : Answer → Told
      kept a = record { answer = a; words = words; befores = befores; flags = flags }

      few : s.rested ≡ true → s.nets ≤ 4096
      few e = let h = g.card (g.rest e).0 in omega (arith, nets_are s h, (card_fits s h).fits.few)

      shown : List ℕ → List ℕ → List ℕ → Told
      shown p q r = record { answer = Ok s.nets; words = p; befores = q; flags = r }

      go : (x : Bool) → s.rested ≡ x → (y : Bool) (p q r : List ℕ)
          → answer_count (cond x (cond y (shown p q r) (kept (Err NoRoom))) (kept (Err NotReady))).answer ≤ 4096
      go false e y p q r = lit≤ tt
      go true e false p q r = lit≤ tt
      go true e true p q r = few e

  pub history_plain : packed (history_of s words befores flags).answer
      ≡ answer_number (history_of s words befores flags).answer + 256 * answer_count (history_of s words befores flags).answer
  history_plain = packed_few (history_of s words befores flags).answer few_shown
