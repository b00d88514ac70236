use mathlib.Core.Path.{◌≡◌}
use Rattle.step_records.specs.Records.{records_in}
use Rattle.step_records.specs.Inner.Records.{record_in}
use Rattle.step_records.proofs.list_records.Given as goal

abbrev pub invariant-loop-e : goal.invariant-loop-e
invariant-loop-e l = l.room ≡ records_in (record_in l.nets l.times) l.e l.initial.room
