-- Every operation on a session, by its own definition: what it is given, and what it hands back of number, count, session and lent room. Assumes nothing.
use Rattle.std.specs.Prelude.{◌≡◌, List, [], ◌∷◌, map, ℕ}
use Rattle.rule.specs.Answers.{Answer}
use Rattle.rule.specs.Answers.{NetAnswer}
use Rattle.rule.specs.Numbers.{answer_number, answer_count, net_number, net_level, net_word}
use Rattle.card_records.specs.Written.{Bytes}
use Rattle.card.specs.declared.Session.{Session}
use Rattle.card.specs.Loaded.{Loaded}
use Rattle.card.specs.Load.{load_of}
use Rattle.card.specs.Asked.{net_asked}
use Rattle.session.specs.Moved.{Moved}
use Rattle.session.specs.Moves.{rest_of}
use Rattle.history.specs.Told.{Told, history_of}
use Rattle.trace.specs.Traced.{Traced, trace_of}
use Rattle.step_list.specs.Listing.{Listed, list_of}
use Rattle.operations.specs.declared.Engine.{Engine}
use Rattle.operations.specs.Operated.{vector_by}
use Rattle.step_records.specs.declared.StepRecord.{StepRecord}
use Rattle.step_records.specs.Records.{Answered, records_of}
use Rattle.bench.specs.Bench.{Benched, bench_of}

-- an operation, with all that it is given and lent
pub data Operation : Type 0 where
  load : List ℕ → Operation
  rest : List ℕ → Operation
  vector : Engine → List ℕ → Operation
  history : List ℕ → List ℕ → List ℕ → Operation
  list : List ℕ → List ℕ → Operation
  records : List StepRecord → Operation
  ask : ℕ → Operation
  trace : ℕ → ℕ → List ℕ → Operation
  bench : List ℕ → List ℕ → ℕ → List ℕ → Operation

-- lent room: slices of numbers, and one of step structs
pub record Lent : Type 0 where
  pub numbers : List (List ℕ)
  pub structs : List StepRecord

abbrev pub slices : List (List ℕ) → Lent
slices xs = record { numbers = xs; structs = [] }

abbrev pub lent_to : Operation → Lent
lent_to (load b) = slices []
lent_to (rest v) = slices []
lent_to (vector e v) = slices []
lent_to (history ws bs fs) = slices (ws ∷ bs ∷ fs ∷ [])
lent_to (list ns ts) = slices (ns ∷ ts ∷ [])
lent_to (records room) = record { numbers = []; structs = room }
lent_to (ask n) = slices []
lent_to (trace n t room) = slices (room ∷ [])
lent_to (bench v order k room) = slices (room ∷ [])

-- what is handed back: number and count, of a question about a net its level and word, the session, and the lent room
pub record Outcome : Type 0 where
  pub number : ℕ
  pub count : ℕ
  pub level : ℕ
  pub word : ℕ
  pub session : Session
  pub lent : Lent

abbrev pub answered : Answer → Session → Lent → Outcome
answered a s lent = record { number = answer_number a; count = answer_count a; level = 0; word = 0; session = s; lent = lent }

abbrev pub told : NetAnswer → Session → Outcome
told a s = record { number = net_number a; count = 0; level = net_level a; word = net_word a; session = s; lent = slices [] }

-- the result of the operation's function, with the lent room that it leaves
abbrev pub Result : Operation → Type 0
Result (load b) = Loaded
Result (rest v) = Moved
Result (vector e v) = Moved
Result (history ws bs fs) = Told
Result (list ns ts) = Listed
Result (records room) = Answered
Result (ask n) = NetAnswer
Result (trace n t room) = Traced
Result (bench v order k room) = Benched

-- the one that its definition names
abbrev pub result_of : Session → (o : Operation) → Result o
result_of s (load b) = load_of s b
result_of s (rest v) = rest_of s v
result_of s (vector e v) = vector_by e s v
result_of s (history ws bs fs) = history_of s ws bs fs
result_of s (list ns ts) = list_of s ns ts
result_of s (records room) = records_of s room
result_of s (ask n) = net_asked s n
result_of s (trace n t room) = trace_of s n t room
result_of s (bench v order k room) = bench_of s v order k room

-- the results that the function's contract allows
abbrev pub Promised : Session → (o : Operation) → Result o → Type 0
Promised s o r = r ≡ result_of s o

-- what a result hands back
abbrev pub handed : Session → (o : Operation) → Result o → Outcome
handed s (load b) r = answered r.answer r.session (slices [])
handed s (rest v) r = answered r.answer r.session (slices [])
handed s (vector e v) r = answered r.answer r.session (slices [])
handed s (history ws bs fs) r = answered r.answer s (slices (r.words ∷ r.befores ∷ r.flags ∷ []))
handed s (list ns ts) r = answered r.answer s (slices (r.nets ∷ r.times ∷ []))
handed s (records room) r = answered r.answer s (record { numbers = []; structs = r.room })
handed s (ask n) r = told r s
handed s (trace n t room) r = answered r.answer s (slices (r.room ∷ []))
handed s (bench v order k room) r = answered r.moved.answer r.moved.session (slices (r.room ∷ []))

abbrev pub outcome : Session → Operation → Outcome
outcome s o = handed s o (result_of s o)

-- vectors one after another, each by an engine of its own
pub record Turn : Type 0 where
  pub engine : Engine
  pub given : List ℕ

unfoldable pub after_by : Session → List Turn → Session
after_by s [] = s
after_by s (t ∷ ts) = after_by (vector_by t.engine s t.given).session ts

-- "Every refusal returns its number and count 0, and changes neither session nor lent memory." Level and word are 0 too
pub record Same (s : Session) (lent : Lent) (o : Outcome) : Type 0 where
  pub count : o.count ≡ 0
  pub level : o.level ≡ 0
  pub word : o.word ≡ 0
  pub session : o.session ≡ s
  pub room : o.lent ≡ lent

-- what is asked of what an operation is given: of what is loaded that it is bytes, and of all else nothing
abbrev pub Given : Operation → Type 0
Given (load b) = Bytes b
Given (rest v) = Unit {0}
Given (vector e v) = Unit {0}
Given (history ws bs fs) = Unit {0}
Given (list ns ts) = Unit {0}
Given (records room) = Unit {0}
Given (ask n) = Unit {0}
Given (trace n t room) = Unit {0}
Given (bench v order k room) = Unit {0}

-- the vectors of some turns
abbrev pub vectors : List Turn → List (List ℕ)
vectors ts = map (λ t. t.given) ts
