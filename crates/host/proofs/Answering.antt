-- What bytes hold, and which way each call goes. Assumes nothing.
use mathlib.Core.Path.{◌≡◌, refl, sym, ap, ◌∙◌}
use mathlib.Core.List.{List}
use Prim.Native.Nat.{ℕ, ◌<◌, ◌≤◌}
use lib.Dec.{ltb}
use lib.ListN.{length}
use borrow.Author.Tests.{lt-ltb, le-ltb, ltb-false}
use Rattle.std.specs.Prelude.{Bool, true, false, cond, Option, None, Some, Ok, Err, ok_or}
use Rattle.rule.specs.declared.Refusal.{Refusal}
use Rattle.rule.specs.declared.Refusal.TheVariants.{NotReady, NoRoom}
use Rattle.card_records.specs.Written.{Bytes}
use Rattle.card.specs.declared.Session.{Session}
use Rattle.session.specs.Good.{Good}
use Rattle.history.specs.Told.{Told, history_of}
use Rattle.operations.specs.declared.Move.{Move}
use Rattle.operations.specs.Operated.{operated}
use Rattle.host_bytes.specs.Layout.{session_length}
use Rattle.host_made.specs.Made.{made_again}
use Rattle.host_made.proofs.Making.{again_good}
use Rattle.host.specs.Calls.{packed, session_in, left_by, move_in, host_move, history_in, host_history}

module _ (b : List ℕ) where
  pub in_short : length b < session_length → session_in b ≡ Err NoRoom
  unfolding session_in
  in_short l = rw lt-ltb

  pub in_broken : session_length ≤ length b → made_again b ≡ None → session_in b ≡ Err NotReady
  unfolding session_in
  in_broken l e = rw (le-ltb, e)

  pub in_held : (s : Session) → session_length ≤ length b → made_again b ≡ Some s → session_in b ≡ Ok s
  unfolding session_in
  in_held s l e = rw (le-ltb, e)

  pub in_made : session_length ≤ length b → session_in b ≡ ok_or (made_again b) NotReady
  unfolding session_in
  in_made l = rw le-ltb

  -- bytes that hold a session are long enough for one, and it is made of them
  pub in_says : (s : Session) → session_in b ≡ Ok s → (session_length ≤ length b) × (made_again b ≡ Some s)
  unfolding session_in
  in_says s e = go (ltb (length b) session_length) refl (made_again b) refl e
    where
      go : (x : Bool) → ltb (length b) session_length ≡ x → (m : Option Session) → made_again b ≡ m → cond x (Err NoRoom) (ok_or m NotReady) ≡ Ok s
          → (session_length ≤ length b) × (made_again b ≡ Some s)
      go true l m q d = cc
      go false l None q d = cc
      go false l (Some t) q d = let same : t ≡ s = cc in (ltb-false (length b) session_length l, q ∙ ap Some same)

  pub in_good : (s : Session) → Bytes b → session_in b ≡ Ok s → Good s
  in_good s h e = again_good b h s (in_says s e).1

module _ (how : Move) (b v : List ℕ) where
  pub move_refused : (why : Refusal) → session_in b ≡ Err why → record { answer = packed (Err why); bytes = b } ≡ host_move how b v
  unfolding host_move
  move_refused why e = ap (move_in how b v) (sym e)

  pub move_left : (s : Session) → session_in b ≡ Ok s → left_by how (operated how s v).answer b v ≡ host_move how b v
  unfolding host_move
  move_left s e = ap (move_in how b v) (sym e)

  pub move_broken : session_length ≤ length b → made_again b ≡ None → record { answer = packed (Err NotReady); bytes = b } ≡ host_move how b v
  move_broken l e = move_refused NotReady (in_broken b l e)

module _ (b words befores flags : List ℕ) where
  pub history_refused : (why : Refusal) → session_in b ≡ Err why
      → record { answer = packed (Err why); words = words; befores = befores; flags = flags } ≡ host_history b words befores flags
  unfolding host_history
  history_refused why e = ap (history_in words befores flags) (sym e)

  pub history_shown : (s : Session) (h : Told) → session_in b ≡ Ok s → h ≡ history_of s words befores flags
      → record { answer = packed h.answer; words = h.words; befores = h.befores; flags = h.flags } ≡ host_history b words befores flags
  unfolding host_history
  history_shown s h e q =
      ap (λ x. record { answer = packed x.answer; words = x.words; befores = x.befores; flags = x.flags }) q ∙ ap (history_in words befores flags) (sym e)

  pub history_broken : session_length ≤ length b → made_again b ≡ None
      → record { answer = packed (Err NotReady); words = words; befores = befores; flags = flags } ≡ host_history b words befores flags
  history_broken l e = history_refused NotReady (in_broken b l e)
