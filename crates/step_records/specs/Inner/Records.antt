-- Inner: cited by laws. The record of number e in two arrays: where the list stands there it is the list's, `records_made`
-- (step_records/proofs/Listings.antt). Assumes nothing.
use Rattle.std.specs.Prelude.{List, ℕ, get_or}
use Rattle.step_records.specs.declared.StepRecord.{StepRecord}

abbrev pub record_in : List ℕ → List ℕ → ℕ → StepRecord
record_in nets times e = record { net = get_or nets e 0; time = get_or times e 0 }
