-- `Held::record_list` meets its contract: the list is put into the part that is lent, and the rest is left. Assumes nothing.
use mathlib.Core.Path.{ap, ◌∙◌}
use mathlib.Core.List.{List, ◌++◌}
use lib.ListN.{take, drop}
use Rattle.step_records.specs.declared.StepRecord.{StepRecord}
use Rattle.step_records.specs.Records.{Answered, records_of}
use Rattle.drill.proofs.Lent.{recorded_is}
use Rattle.drill.proofs.held.Held.record_list.Goals as goal

pub returns : goal.returns
returns c =
    let s = c.args.self.now in
    let n = c.args.n in
    let left : Answered = record { answer = c.records.result; room = c.records.new.room } in
    let whole : List StepRecord → Answered = λ r. record { answer = left.answer; room = left.room ++ drop n r } in
    ap whole c.requires.1 ∙ recorded_is s n left c.requires.0 (c.records.ensures ∙ ap (λ r. records_of s (take n r)) c.requires.1)
