-- Which way the call that runs many vectors goes. Assumes nothing.
use mathlib.Core.Path.{◌≡◌, sym, ap, ◌∙◌}
use mathlib.Core.List.{List}
use Prim.Native.Nat.{ℕ, ◌≤◌}
use lib.ListN.{length}
use Rattle.std.specs.Prelude.{None, Ok, Err}
use Rattle.rule.specs.declared.Refusal.{Refusal}
use Rattle.rule.specs.declared.Refusal.TheVariants.{NotReady}
use Rattle.card.specs.declared.Session.{Session}
use Rattle.operations.specs.declared.Engine.{Engine}
use Rattle.host_bytes.specs.Layout.{session_length}
use Rattle.host_made.specs.Made.{made_again}
use Rattle.host_many.specs.Many.{many_by, many_judged, kept_many}
use Rattle.host.specs.Calls.{packed, session_in}
use Rattle.host.specs.Vectors.{many_done, vectors_in, host_vectors}
use Rattle.host.proofs.Answering.{in_broken}

module _ (engine : Engine) (b vs room : List ℕ) where
  pub vectors_refused : (why : Refusal) → session_in b ≡ Err why → record { answer = packed (Err why); bytes = b; words = room } ≡ host_vectors engine b vs room
  unfolding host_vectors
  vectors_refused why e = ap (vectors_in engine b vs room) (sym e)

  pub vectors_done : (s : Session) → session_in b ≡ Ok s → many_done engine s b vs room (many_judged s vs (length room)) ≡ host_vectors engine b vs room
  unfolding host_vectors
  vectors_done s e = ap (vectors_in engine b vs room) (sym e)

  pub vectors_broken : session_length ≤ length b → made_again b ≡ None → record { answer = packed (Err NotReady); bytes = b; words = room } ≡ host_vectors engine b vs room
  vectors_broken l e = vectors_refused NotReady (in_broken b l e)

  module _ (s : Session) (e : session_in b ≡ Ok s) where
    pub ran_refused : (why : Refusal) → many_judged s vs (length room) ≡ Err why → record { answer = packed (Err why); bytes = b; words = room } ≡ host_vectors engine b vs room
    ran_refused why q = sym (ap (many_done engine s b vs room) q) ∙ vectors_done s e

    pub ran_done : (k : ℕ) → many_judged s vs (length room) ≡ Ok k
        → record { answer = packed (Ok (many_by engine s vs s.inputs k room).count); bytes = kept_many engine b vs s.inputs k; words = (many_by engine s vs s.inputs k room).words }
        ≡ host_vectors engine b vs room
    ran_done k q = sym (ap (many_done engine s b vs room) q) ∙ vectors_done s e
