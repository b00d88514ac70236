-- Inner: cited by contracts between functions alone, and by laws. Which variables are there while an order is judged, kept as words: bit t of net n's word
-- says that variable (n, t) is. The judgement is `order_judged`: `judged_is` (bench/proofs/Ties.antt). Assumes nothing.
use Rattle.std.specs.Prelude.{Bool, true, cond, ◌&&◌, List, [], ◌∷◌, map, ℕ, ◌<◌, eqb, length, get_or, set, replicate}
use Rattle.lists.specs.Entries.{every}
use Rattle.word.specs.Word.{bit, word_of}
use Rattle.rule.specs.Steps.{Step}
use Rattle.rule.specs.declared.Refusal.TheVariants.{OrderLength, OrderEntry, OrderEarly}
use Rattle.rule.specs.Answers.{Verdict}
use Rattle.std.specs.Prelude.{Ok, Err}
use Rattle.step_vars.specs.Variables.{held_in, reads_in}
use Rattle.step_vars.specs.Inner.Variables.{StepTime}
use Rattle.step_orders.specs.Orders.{entries_fit}

-- a step number whose net is a place of the arrays, at a time that a step can have
pub record StepEntry (nets times : List ℕ) (e : ℕ) : Type 0 where
  pub number : e < 4096
  pub net : get_or nets e 0 < 256
  pub time : StepTime (get_or times e 0)

-- the steps of an order, as arrays of nets and times have them
abbrev pub order_steps : List ℕ → List ℕ → List ℕ → List Step
order_steps nets times order = map (λ e. record { net = get_or nets e 0; time = get_or times e 0 }) order

-- those of an open pin are always there
abbrev pub done_of : List ℕ → Step → Bool
done_of words = held_in true words

-- one more is there
unfoldable pub mark_in : List ℕ → Step → List ℕ
mark_in words k = set words k.net (word_of 64 (λ t. cond (eqb t k.time) true (bit (get_or words k.net 0) t)))

-- all that each step reads is there when it is reached
unfoldable pub ready_in : List ℕ → List ℕ → List ℕ → List ℕ → List Step → Bool
ready_in counts places sets words [] = true
ready_in counts places sets words (k ∷ ks) = every (done_of words) (reads_in counts places sets k) && ready_in counts places sets (mark_in words k) ks

-- an order judged from arrays: 15, 16, 17. Ahead of all steps the variables of time 0 are there
unfoldable pub judged_in : List ℕ → List ℕ → List ℕ → List ℕ → List ℕ → ℕ → List ℕ → Verdict
judged_in counts places sets nets times total order =
    cond (eqb (length order) total)
    (cond (entries_fit total order)
    (cond (ready_in counts places sets (replicate 256 1) (order_steps nets times order)) (Ok tt) (Err OrderEarly))
    (Err OrderEntry))
    (Err OrderLength)
