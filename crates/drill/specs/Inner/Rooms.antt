-- Inner: cited by contracts between functions alone, and by laws. The room that is lent for the step list as records.
-- A refusal leaves all of it as it was: `recorded_refused` (drill/proofs/Lent.antt). Assumes nothing.
use Rattle.std.specs.Prelude.{ℕ, ◌-◌, List, ◌++◌, replicate}
use Rattle.card.specs.declared.Session.{Session}
use Rattle.step_records.specs.declared.StepRecord.{StepRecord}
use Rattle.step_records.specs.Records.{Answered, records_of}

-- a record, and n of them, ahead of a call: every entry is 170
abbrev pub lent_record : StepRecord
lent_record = record { net = 170; time = 170 }

abbrev pub lent_records : ℕ → List StepRecord
lent_records n = replicate n lent_record

-- what the list leaves in the n that are lent, and the others of 20,000
abbrev pub recorded_in : Session → ℕ → Answered
recorded_in s n =
    let left : Answered = records_of s (lent_records n) in
    record { answer = left.answer; room = left.room ++ lent_records (20000 - n) }
