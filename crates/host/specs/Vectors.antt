-- The calls that run many vectors: what they answer and leave, for any bytes. Assumes nothing.
use Rattle.std.specs.Prelude.{List, ℕ, length, Result, Ok, Err}
use Rattle.rule.specs.declared.Refusal.{Refusal}
use Rattle.rule.specs.Answers.{Answer}
use Rattle.card.specs.declared.Session.{Session}
use Rattle.operations.specs.declared.Engine.{Engine}
use Rattle.host_many.specs.Many.{many_by, many_judged, kept_many}
use Rattle.host.specs.Calls.{packed, session_in}

pub record ManyShown : Type 0 where
  pub answer : ℕ
  pub bytes : List ℕ
  pub words : List ℕ

-- all of them, or none
abbrev pub many_done : Engine → Session → List ℕ → List ℕ → List ℕ → Answer → ManyShown
many_done engine s b vs room (Err why) = record { answer = packed (Err why); bytes = b; words = room }
many_done engine s b vs room (Ok k) =
    let ran = many_by engine s vs s.inputs k room in
    record { answer = packed (Ok ran.count); bytes = kept_many engine b vs s.inputs k; words = ran.words }

abbrev pub vectors_in : Engine → List ℕ → List ℕ → List ℕ → Result Session Refusal → ManyShown
vectors_in engine b vs room (Err why) = record { answer = packed (Err why); bytes = b; words = room }
vectors_in engine b vs room (Ok s) = many_done engine s b vs room (many_judged s vs (length room))

unfoldable pub host_vectors : Engine → List ℕ → List ℕ → List ℕ → ManyShown
host_vectors engine b vs room = vectors_in engine b vs room (session_in b)
