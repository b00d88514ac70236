-- Inner: cited by contracts between functions alone, and by laws. What a run of steps needs of them, steps by an order of numbers, and what a run leaves and
-- hands back. The steps of a card may be done: `steps_doable` (step_run/proofs/Runs.antt); from a session's words they leave what its run leaves:
-- `stepped_run` (step_run/proofs/Vectors.antt). Assumes nothing.
use Rattle.std.specs.Prelude.{List, ℕ, get_or}
use Rattle.lists.specs.Entries.{◌∈◌}
use Rattle.lists.specs.Listed.{listed}
use Rattle.rule.specs.Steps.{Step}
use Rattle.card_wiring.specs.Inner.Wires.{Gates}
use Rattle.inputs.specs.Inner.Starts.{tops_of}
use Rattle.step_vars.specs.Variables.{histories_from}
use Rattle.step_vars.specs.Inner.Variables.{StepTime, start_in}
use Rattle.step_list.specs.Inner.Listing.{numbered_step}
use Rattle.std.specs.Prelude.{Ok}
use Rattle.card.specs.declared.Session.{Session}
use Rattle.session.specs.Moved.{Moved}
use Rattle.step_run.specs.declared.Advanced.{Advanced}
use Rattle.step_run.specs.Runs.{Ran, ran}
use Rattle.step_run.specs.Vector.{ran_session}

-- what a run of steps needs of them: each is of a gate, at a time that a step can have
abbrev pub Doable : List ℕ → List ℕ → List Step → Type 0
Doable types counts ks = (k : Step) → k ∈ ks → Gates types counts k.net × StepTime k.time

-- the first n entries of an order of step numbers
abbrev pub ordered_steps : List ℕ → List ℕ → List ℕ → ℕ → List Step
ordered_steps nets times order n = listed (λ i. numbered_step nets times (get_or order i 0)) n

-- the histories that steps leave, from words that end in the before values, and the count
unfoldable pub stepped : List ℕ → List ℕ → List ℕ → List ℕ → List ℕ → List Step → List ℕ → List ℕ → Advanced
stepped feeds types counts places sets ks words v =
    let r = ran types counts places sets (start_in (tops_of words) feeds v) ks in
    record { words = histories_from sets r.words; count = r.count }

-- and what is handed back of it: the count is that of "the steps done"
abbrev pub ran_move : Session → Ran → Moved
ran_move s r = record { answer = Ok r.count; session = ran_session s r }
