-- A vector by steps: the variables and the count are what the steps of the list leave, one after another; the histories are read from those
-- variables. Assumes nothing.
use Rattle.std.specs.Prelude.{Bool, cond, List, ℕ, get_or}
use Rattle.lists.specs.Listed.{listed}
use Rattle.word.specs.Word.{word_of}
use Rattle.rule.specs.Steps.{Step, step_list}
use Rattle.inputs.specs.Inputs.{is_input_kind, given, vector_judged}
use Rattle.card.specs.declared.Session.{Session}
use Rattle.card.specs.Session.{card_of, resting}
use Rattle.session.specs.Moved.{Moved}
use Rattle.session.specs.Moves.{moving, ends}
use Rattle.step_vars.specs.Variables.{histories_from}
use Rattle.step_run.specs.Runs.{Ran, ran}

-- "The variable for it takes the before value ahead of all steps": every variable of a net holds its before value, an input's its new one
unfoldable pub start_vars : Session → (ℕ → Bool) → List ℕ
start_vars s new = listed (λ n. word_of 64 (λ t. cond (is_input_kind (get_or s.kinds n 0)) (new n) (ends s n))) 256

-- what the steps of a list leave
unfoldable pub ran_along : Session → (ℕ → Bool) → List Step → Ran
ran_along s new ks = ran s.types s.counts s.places s.sets (start_vars s new) ks

-- the session that such a run leaves
unfoldable pub ran_session : Session → Ran → Session
ran_session s r = resting s s.rested (listed (ends s) 256) (histories_from s.sets r.words)

-- "A vector by steps goes along the list"
unfoldable pub steps_vector_of : Session → List ℕ → Moved
steps_vector_of s v =
    let r = ran_along s (given s.kinds v) (step_list (card_of s)) in
    moving s (vector_judged s.rested s.inputs v) r.count (ran_session s r)
