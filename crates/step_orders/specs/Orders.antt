-- Orders of step numbers: 15, 16, 17. Assumes nothing.
use Rattle.std.specs.Prelude.{Bool, true, cond, ◌&&◌, not, List, [], ◌∷◌, map, ℕ, eqb, ltb, length}
use Rattle.lists.specs.Entries.{some, every}
use Rattle.rule.specs.Net.{Net}
use Rattle.rule.specs.Run.{ready}
use Rattle.rule.specs.Steps.{Step, same_step, step_reads, step_list, step_at}
use Rattle.rule.specs.declared.Refusal.TheVariants.{OrderLength, OrderEntry, OrderEarly}
use Rattle.rule.specs.Answers.{Verdict}
use Rattle.std.specs.Prelude.{Ok, Err}

-- each entry stands once
abbrev pub once_each : List ℕ → Bool
once_each [] = true
once_each (e ∷ es) = not (some (λ x. eqb x e) es) && once_each es

-- 16: "an order entry is no step, or stands twice"
unfoldable pub entries_fit : ℕ → List ℕ → Bool
entries_fit steps order = every (λ e. ltb e steps) order && once_each order

-- the steps of an order
abbrev pub steps_of : List Net → List ℕ → List Step
steps_of c order = map (step_at (step_list c)) order

-- 17: "a step stands before one that it reads": what it reads is there from the start, at time 0, or was done
unfoldable pub order_ready : List Net → List ℕ → Bool
order_ready c order = ready same_step (step_reads c) (λ k. eqb k.time 0) (steps_of c order)

-- 15: "order not as long as the step list"; then 16, 17
unfoldable pub order_judged : List Net → List ℕ → Verdict
order_judged c order =
    cond (eqb (length order) (length (step_list c)))
    (cond (entries_fit (length (step_list c)) order) (cond (order_ready c order) (Ok tt) (Err OrderEarly)) (Err OrderEntry))
    (Err OrderLength)
