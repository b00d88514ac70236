-- Inner: cited by contracts between functions alone, and by laws. The states that byte 0 tells, and the bytes that tell them. That of a card which a vector
-- moved is told by the engine's mark: `marked` (host_bytes/proofs/States.antt). Assumes nothing.
use Rattle.std.specs.Prelude.{cond, ℕ, eqb, Result, Ok, Err}
use Rattle.operations.specs.declared.Engine.{Engine}
use Rattle.operations.specs.declared.Engine.TheVariants.{Fields, Steps}
use Rattle.host_bytes.specs.declared.State.{State}
use Rattle.host_bytes.specs.declared.State.TheVariants.{Empty, Loaded, Rested, Fields as ByFields, Steps as BySteps}
use Rattle.host_bytes.specs.declared.NoState.{NoState}

abbrev pub byte_of : State → ℕ
byte_of Empty = 0
byte_of Loaded = 1
byte_of Rested = 2
byte_of ByFields = 3
byte_of BySteps = 4

abbrev pub state_of : ℕ → Result State NoState
state_of byte =
    cond (eqb byte 0) (Ok Empty)
    (cond (eqb byte 1) (Ok Loaded)
    (cond (eqb byte 2) (Ok Rested)
    (cond (eqb byte 3) (Ok ByFields)
    (cond (eqb byte 4) (Ok BySteps) (Err (record {}))))))

-- by which engine a vector moved the card
abbrev pub moved_state : Engine → State
moved_state Fields = ByFields
moved_state Steps = BySteps
