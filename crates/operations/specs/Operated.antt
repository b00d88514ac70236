-- The operations that move a session, each by its own definition. Assumes nothing.
use Rattle.std.specs.Prelude.{List, ℕ}
use Rattle.card.specs.declared.Session.{Session}
use Rattle.card.specs.Load.{load_of}
use Rattle.session.specs.Moved.{Moved}
use Rattle.session.specs.Moves.{rest_of, vector_of}
use Rattle.step_run.specs.Vector.{steps_vector_of}
use Rattle.operations.specs.declared.Engine.{Engine}
use Rattle.operations.specs.declared.Engine.TheVariants.{Fields, Steps}
use Rattle.operations.specs.declared.Move.{Move}
use Rattle.operations.specs.declared.Move.TheVariants.{Load, Rest, Vector}

abbrev pub load_move : Session → List ℕ → Moved
load_move s bytes = let l = load_of s bytes in record { answer = l.answer; session = l.session }

-- a vector by an engine
abbrev pub vector_by : Engine → Session → List ℕ → Moved
vector_by Fields s v = vector_of s v
vector_by Steps s v = steps_vector_of s v

-- an operation, with the bytes that it is given
abbrev pub operated : Move → Session → List ℕ → Moved
operated Load s given = load_move s given
operated Rest s given = rest_of s given
operated (Vector engine) s given = vector_by engine s given
