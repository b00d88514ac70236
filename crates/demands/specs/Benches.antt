-- What demand 3 says of a bench run. Assumes nothing.
use Rattle.std.specs.Prelude.{◌≡◌, Bool, false, List, ℕ, ◌<◌, get_or, take}
use Rattle.lists.specs.Entries.{◌∈◌, Number}
use Rattle.word.specs.Word.{bit, val}
use Rattle.rule.specs.Rule.{value}
use Rattle.rule.specs.Steps.{Joined, step_list, step_at}
use Rattle.rule.specs.declared.Refusal.{Refusal}
use Rattle.rule.specs.declared.Refusal.TheVariants.{OrderLength, OrderEntry, OrderEarly}
use Rattle.std.specs.Prelude.{Ok, Err}
use Rattle.card.specs.declared.Session.{Session}
use Rattle.card.specs.Session.{card_of}
use Rattle.session.specs.Moves.{given_to, ends, vector_of}
use Rattle.bench.specs.Bench.{Benched, not_done, bench_of}
use Rattle.bench.specs.Allowed.{step_count}

-- "An order is turned away, by 15, 16 or 17"
pub data OrderFault : Refusal → Type 0 where
  fault_15 : OrderFault OrderLength
  fault_16 : OrderFault OrderEntry
  fault_17 : OrderFault OrderEarly

module _ (s : Session) (v order : List ℕ) (k : ℕ) (room : List ℕ) where
  abbrev pub benched : Benched
  benched = bench_of s v order k room

  pub record TurnedAway : Type 0 where
    pub why : Refusal
    pub fault : OrderFault why
    pub refused : benched.moved.answer ≡ Err why

  -- the rule's value of a net at a time
  abbrev pub ruled : ℕ → ℕ → Bool
  ruled n t = value (card_of s) (ends s) (given_to (card_of s) v) n t

  -- "It writes one byte for each step number: the step's value if it is among the first k, else 2."
  pub record BenchValues : Type 0 where
    pub done : benched.moved.answer ≡ Ok k
    pub first : (e : ℕ) → e ∈ take k order
        → let step = step_at (step_list (card_of s)) e in get_or benched.room e 0 ≡ val (ruled step.net step.time)
    pub others : (e : ℕ) → e < step_count s → ¬ (e ∈ take k order) → get_or benched.room e 0 ≡ not_done

  -- k the whole list: the session moves "exactly as a vector moves it", "the whole run ends with the rule's history and state" and counts the chain pairs
  pub record BenchWhole : Type 0 where
    pub as_vector : benched.moved.session ≡ (vector_of s v).session
    pub history : (n : ℕ) → n < s.nets → (t : ℕ) → t < 64 → bit (get_or benched.moved.session.words n 0) t ≡ ruled n t
    pub before : (n : ℕ) → n < s.nets → get_or benched.moved.session.before n false ≡ ends s n
    pub count : (m : ℕ) × (benched.moved.answer ≡ Ok m) × Number (Joined (card_of s)) m
