-- When document 01 gives each number for a bench run, said without a procedure. Assumes nothing.
use Rattle.std.specs.Prelude.{◌≡◌, true, List, ℕ, ◌<◌, ◌≤◌, length}
use Rattle.lists.specs.Entries.{◌∈◌, Sorted, Distinct}
use Rattle.rule.specs.Net.{Net}
use Rattle.rule.specs.Steps.{step_reads, GoodOrder, step_list}
use Rattle.rule.specs.declared.Refusal.{Refusal}
use Rattle.rule.specs.declared.Refusal.TheVariants.{OrderLength, OrderEntry, OrderEarly, TooManyAsked, NoRoom}
use Rattle.inputs.specs.Allowed.{Vector, VectorGets}
use Rattle.card.specs.declared.Session.{Session}
use Rattle.card.specs.Session.{card_of}
use Rattle.step_orders.specs.Orders.{steps_of}

-- how many steps a session's card has
abbrev pub step_count : Session → ℕ
step_count s = length (step_list (card_of s))

-- the entries are steps' numbers, each once
pub record Entries (c : List Net) (order : List ℕ) : Type 0 where
  pub below : (e : ℕ) → e ∈ order → e < length (step_list c)
  pub once : Distinct order

-- no step stands before one that it reads
abbrev pub Reading : List Net → List ℕ → Type 0
Reading c order = Sorted (λ k later. ¬ (later ∈ step_reads c k)) (steps_of c order)

-- "Bench run: 12, 10, 11, 15, 16, 17, 19, 18."
pub data BenchGets (s : Session) (v order : List ℕ) (k : ℕ) (room : List ℕ) : Refusal → Type 0 where
  gets_vector : {r : Refusal} → VectorGets s.rested s.inputs v r → BenchGets s v order k room r
  gets_15 : s.rested ≡ true → Vector s.inputs v
      → ¬ (length order ≡ step_count s) → BenchGets s v order k room OrderLength
  gets_16 : s.rested ≡ true → Vector s.inputs v
      → length order ≡ step_count s → ¬ Entries (card_of s) order → BenchGets s v order k room OrderEntry
  gets_17 : s.rested ≡ true → Vector s.inputs v
      → length order ≡ step_count s → Entries (card_of s) order → ¬ Reading (card_of s) order → BenchGets s v order k room OrderEarly
  gets_19 : s.rested ≡ true → Vector s.inputs v
      → GoodOrder (card_of s) (steps_of (card_of s) order) → step_count s < k → BenchGets s v order k room TooManyAsked
  gets_18 : s.rested ≡ true → Vector s.inputs v
      → GoodOrder (card_of s) (steps_of (card_of s) order) → k ≤ step_count s → length room < step_count s → BenchGets s v order k room NoRoom

-- and when it is done
pub record Doing (s : Session) (v order : List ℕ) (k : ℕ) (room : List ℕ) : Type 0 where
  pub rested : s.rested ≡ true
  pub vector : Vector s.inputs v
  pub order_good : GoodOrder (card_of s) (steps_of (card_of s) order)
  pub asked : k ≤ step_count s
  pub roomy : step_count s ≤ length room
