-- The step list as records: "The step list goes to the lent place as records of net and time"; "Step list: 12 (card only), 18". Assumes nothing.
use Rattle.std.specs.Prelude.{cond, List, ℕ, leb, length}
use Rattle.lists.specs.Filled.{fills}
use Rattle.rule.specs.Steps.{Step, step_list, step_at}
use Rattle.rule.specs.declared.Refusal.TheVariants.{NotReady, NoRoom}
use Rattle.rule.specs.Answers.{Answer}
use Rattle.std.specs.Prelude.{Ok, Err}
use Rattle.card.specs.declared.Session.{Session}
use Rattle.card.specs.Session.{card_of}
use Rattle.step_records.specs.declared.StepRecord.{StepRecord}

abbrev pub blank_record : StepRecord
blank_record = record { net = 0; time = 0 }

-- a step as a record, and the record of number e in two arrays
abbrev pub step_record : Step → StepRecord
step_record k = record { net = k.net; time = k.time }

-- f 0, f 1, ..: n of them, at the front of some room; "Lent room past the part written keeps its contents."
abbrev pub records_in : (ℕ → StepRecord) → ℕ → List StepRecord → List StepRecord
records_in f n room = fills blank_record f n room

-- the list's records at the front of some room
abbrev pub records_put : Session → List StepRecord → List StepRecord
records_put s room = let ks = step_list (card_of s) in records_in (λ e. step_record (step_at ks e)) (length ks) room

pub record Answered : Type 0 where
  pub answer : Answer
  pub room : List StepRecord

-- "step list its length"; a refusal leaves the room as it was
unfoldable pub records_of : Session → List StepRecord → Answered
records_of s room =
    let n = length (step_list (card_of s)) in
    let kept : Answer → Answered = λ a. record { answer = a; room = room } in
    cond s.loaded
    (cond (leb n (length room)) (record { answer = Ok n; room = records_put s room }) (kept (Err NoRoom)))
    (kept (Err NotReady))
