-- A vector by steps is refused as a vector by fields is: 12, 10, 11, each exactly when document 01 gives it, and then nothing is moved. Assumes nothing.
use mathlib.Core.Path.{◌≡◌}
use mathlib.Core.List.{List}
use Prim.Native.Nat.{ℕ}
use Rattle.rule.specs.Steps.{step_list}
use Rattle.rule.specs.declared.Refusal.{Refusal}
use Rattle.std.specs.Prelude.{Err}
use Rattle.inputs.specs.Allowed.{VectorGets}
use Rattle.inputs.specs.Inputs.{given}
use Rattle.card.specs.declared.Session.{Session}
use Rattle.card.specs.Session.{card_of}
use Rattle.session.specs.Moves.{refused_move}
use Rattle.session.proofs.Refusals.{gets_refused, refused_gets, Ruling, ruled}
use Rattle.step_run.specs.Runs.{Ran}
use Rattle.step_run.specs.Vector.{ran_along, ran_session, steps_vector_of}

module _ (s : Session) (v : List ℕ) where
  abbrev run : Ran
  run = ran_along s (given s.kinds v) (step_list (card_of s))

  pub steps_ruled : Ruling s.rested s v run.count (ran_session s run) (steps_vector_of s v)
  unfolding steps_vector_of
  steps_ruled = ruled s.rested s v run.count (ran_session s run)

  pub steps_refuses : (r : Refusal) → VectorGets s.rested s.inputs v r → steps_vector_of s v ≡ refused_move s r
  unfolding steps_vector_of
  steps_refuses r g = gets_refused s.rested s v run.count (ran_session s run) r g

  pub steps_refused : (r : Refusal) → (steps_vector_of s v).answer ≡ Err r → VectorGets s.rested s.inputs v r × ((steps_vector_of s v).session ≡ s)
  unfolding steps_vector_of
  steps_refused r e = refused_gets s.rested s v run.count (ran_session s run) r e
