-- Many vectors in one call. Assumes nothing.
use Rattle.std.specs.Prelude.{cond, List, ℕ, zero, suc, ◌+◌, ◌*◌, ◌/◌, ◌%◌, eqb, leb, length}
use Rattle.lists.specs.Entries.{every}
use Rattle.lists.specs.Places.{part, area}
use Rattle.rule.specs.declared.Refusal.TheVariants.{NotReady, VectorLength, VectorByte, NoRoom}
use Rattle.rule.specs.Answers.{Answer}
use Rattle.std.specs.Prelude.{Ok, Err}
use Rattle.rule.specs.Numbers.{answer_count}
use Rattle.inputs.specs.Inputs.{byte_fits}
use Rattle.card.specs.declared.Session.{Session}
use Rattle.operations.specs.declared.Engine.{Engine}
use Rattle.operations.specs.Operated.{vector_by}
use Rattle.host_bytes.specs.Kept.{kept_vector}

-- a session, the count of the vector that left it, and lent room for words
pub record ManyRan : Type 0 where
  pub session : Session
  pub count : ℕ
  pub words : List ℕ

-- vectors of n bytes each, one after another, the first k of them by an engine: the words of each history go to the room, after those of the vectors ahead
-- of it. One that is refused would leave the words of the last once more; none is, where `many_judged` says Ok. "With 0 comes a count": that of the last,
-- and of none 0
unfoldable pub many_by : Engine → Session → List ℕ → ℕ → ℕ → List ℕ → ManyRan
many_by engine s vs n zero room = record { session = s; count = 0; words = room }
many_by engine s vs n (suc k) room =
    let ran = many_by engine s vs n k room in
    let next = vector_by engine ran.session (part vs (k * n) n) in
    record {
      session = next.session;
      count = answer_count next.answer;
      words = area ran.words (k * s.nets) (k * s.nets + s.nets) next.session.words;
    }

-- "Vector by either engine: 12, 10, 11", of many at once: as many bytes as there are inputs for each, every one 0 or 1; and 18 where there is too little room
-- for a word a net and vector. Ok says how many vectors they are
unfoldable pub many_judged : Session → List ℕ → ℕ → Answer
many_judged s vs room =
    cond s.rested
    (cond (eqb (length vs % s.inputs) 0)
    (cond (every byte_fits vs)
    (cond (leb (length vs / s.inputs * s.nets) room) (Ok (length vs / s.inputs)) (Err NoRoom))
    (Err VectorByte))
    (Err VectorLength))
    (Err NotReady)

-- what is kept of the bytes after vector j; after k of them, the last two
abbrev pub kept_at : Engine → List ℕ → List ℕ → ℕ → ℕ → List ℕ
kept_at engine b vs n j = kept_vector engine b (part vs (j * n) n)

unfoldable pub kept_many : Engine → List ℕ → List ℕ → ℕ → ℕ → List ℕ
kept_many engine b vs n zero = b
kept_many engine b vs n (suc zero) = kept_at engine b vs n 0
kept_many engine b vs n (suc (suc k)) = kept_at engine (kept_at engine b vs n k) vs n (suc k)
