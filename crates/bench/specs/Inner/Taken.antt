-- Inner: cited by contracts between functions alone, and by laws. An order that was taken, the arrays that hold the step list while it is run, and the
-- bytes by arrays. A judgement that passes gives it: `passed_taken` (bench/proofs/Answers.antt). Assumes nothing.
use Rattle.std.specs.Prelude.{◌≡◌, List, ℕ, ◌<◌, length, get_or, Bool, false, cond}
use Rattle.lists.specs.Entries.{◌∈◌}
use Rattle.rule.specs.Net.{Net}
use Rattle.rule.specs.Steps.{Step, step_at, step_list}
use Rattle.word.specs.Word.{bit, val}
use Rattle.bench.specs.Bench.{not_done}

-- two arrays name the steps of a list
pub record Naming (ks : List Step) (nets times : List ℕ) : Type 0 where
  pub net_is : (e : ℕ) → e < length ks → get_or nets e 0 ≡ (step_at ks e).net
  pub time_is : (e : ℕ) → e < length ks → get_or times e 0 ≡ (step_at ks e).time

-- two arrays hold a card's step list, and the entries of an order as long as it are its step numbers
pub record Taken (c : List Net) (nets times : List ℕ) (total : ℕ) (order : List ℕ) : Type 0 where
  pub total_is : total ≡ length (step_list c)
  pub named : Naming (step_list c) nets times
  pub long : length order ≡ total
  pub below : (e : ℕ) → e ∈ order → e < total

-- the same, as arrays of the variables, of the steps' nets and times, and of marks have it
abbrev pub byte_in : List ℕ → List ℕ → List ℕ → List Bool → ℕ → ℕ
byte_in vars nets times done e = cond (get_or done e false) (val (bit (get_or vars (get_or nets e 0) 0) (get_or times e 0))) not_done
