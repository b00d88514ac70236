-- The two engines leave the same session, and take and refuse the same vectors. Assumes nothing.
use mathlib.Core.Path.{◌≡◌, refl, sym, subst, subst₂, ◌∙◌}
use mathlib.Core.Bool.{Bool, true}
use mathlib.Core.List.{List}
use Prim.Native.Nat.{ℕ}
use lib.ListN.{length}
use Rattle.rule.specs.Steps.{step_list}
use Rattle.std.specs.Prelude.{Ok}
use Rattle.inputs.specs.Inputs.{given}
use Rattle.inputs.specs.Allowed.{Vector}
use Rattle.card.specs.declared.Session.{Session}
use Rattle.card.specs.Session.{card_of}
use Rattle.session.specs.Good.{Good}
use Rattle.session.specs.Moved.{Moved}
use Rattle.session.specs.Moves.{moved_by, vector_of}
use Rattle.session.proofs.Kept.{vector_good}
use Rattle.session.proofs.Refusals.{Ruling, refuses, takes, vector_ruled, vector_takes}
use Rattle.step_run.specs.Runs.{Ran}
use Rattle.step_run.specs.Vector.{ran_along, ran_session, steps_vector_of}
use Rattle.step_run.proofs.Vectors.{steps_takes}
use Rattle.step_run.proofs.Refusals.{steps_ruled}
use Rattle.step_run.proofs.Engines.{run_count, steps_rule, engines_equal}
use Rattle.operations.specs.declared.Engine.{Engine}
use Rattle.operations.specs.declared.Engine.TheVariants.{Fields, Steps}
use Rattle.operations.specs.Operated.{vector_by}

pub same_session : (e : Engine) (s : Session) → Good s → (v : List ℕ) → (vector_by e s v).session ≡ (vector_of s v).session
same_session Fields s g v = refl
same_session Steps s g v = engines_equal s g v

-- it meets the rule of sessions
pub by_good : (e : Engine) (s : Session) → Good s → (v : List ℕ) → Good (vector_by e s v).session
by_good e s g v = subst Good (sym (same_session e s g v)) (vector_good s g v)

-- the count that comes with 0: by fields 0, by steps the steps done
abbrev pub count_by : Engine → Session → ℕ
count_by Fields s = 0
count_by Steps s = length (step_list (card_of s))

pub by_takes : (e : Engine) (s : Session) → Good s → s.rested ≡ true → (v : List ℕ) → Vector s.inputs v
    → vector_by e s v ≡ record { answer = Ok (count_by e s); session = moved_by s (given s.kinds v) }
by_takes Fields s g r v w = vector_takes s v r w
by_takes Steps s g r v w =
    steps_takes s v r w
    ∙ (λ i. record { answer = Ok (run_count s (given s.kinds v) (step_list (card_of s)) i); session = steps_rule s g r (given s.kinds v) i })

-- A vector by either engine: 12, 10, 11, or taken
pub by_ruled : (e : Engine) (s : Session) → Good s → (v : List ℕ) → Ruling s.rested s v (count_by e s) (moved_by s (given s.kinds v)) (vector_by e s v)
by_ruled Fields s g v = vector_ruled s v
by_ruled Steps s g v = go (steps_vector_of s v) (steps_ruled s v)
  where
    new : ℕ → Bool
    new = given s.kinds v

    run : Ran
    run = ran_along s new (step_list (card_of s))

    go : (m : Moved) → Ruling s.rested s v run.count (ran_session s run) m → Ruling s.rested s v (count_by Steps s) (moved_by s new) m
    go m (refuses r w) = refuses r w
    go m (takes l w) =
        subst₂ (λ k next. Ruling s.rested s v (count_by Steps s) (moved_by s new) (record { answer = Ok k; session = next })) (sym (run_count s new (step_list (card_of s)))) (sym (steps_rule s g l new)) (takes l w)
