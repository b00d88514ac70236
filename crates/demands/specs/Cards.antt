-- What demand 2 says of a card: that it is accepted exactly when document 01 allows it, and what it does once it is loaded. Assumes nothing.
use Rattle.std.specs.Prelude.{◌≡◌, Bool, List, [], ◌∷◌, ◌++◌, ℕ, ◌<◌, length, get_or}
use Rattle.lists.specs.Entries.{◌∈◌}
use Rattle.rule.specs.Net.{Net}
use Rattle.rule.specs.Rule.{value, Rest}
use Rattle.rule.specs.Numbers.{answer_number}
use Rattle.rule.specs.declared.Refusal.{Refusal}
use Rattle.std.specs.Prelude.{Ok, Err}
use Rattle.inputs.specs.Allowed.{Vector}
use Rattle.card.specs.declared.Session.{Session}
use Rattle.card.specs.Session.{inputs_of}
use Rattle.card.specs.Load.{refusal, load_of, taken}
use Rattle.card.specs.Allowed.{Allowed, LoadGets}
use Rattle.session.specs.Moves.{given_to, rest_of}
use Rattle.session.specs.Sequence.{state_after}
use Rattle.history.specs.Told.{Roomy, history_of}
use Rattle.operations.specs.Operated.{vector_by}
use Rattle.demands.specs.Operations.{Turn, after_by, vectors}
use Rattle.demands.specs.Histories.{HandsOut}

-- "A card is accepted exactly when document 01 allows it"; each number exactly when it gives it
pub record Accepts (old : Session) (b : List ℕ) : Type 0 where
  pub taken_if : (a : Allowed b) → load_of old b ≡ taken a.card
  pub taken_only : (k : ℕ) → (load_of old b).answer ≡ Ok k → Allowed b
  pub refused_if : (r : Refusal) → LoadGets b r → load_of old b ≡ refusal old r
  pub refused_only : (r : Refusal) → (load_of old b).answer ≡ Err r → LoadGets b r

-- a session that holds a card, whatever the rest and the vectors, each by either engine: there is a settled state for the rest, all are answered 0, and a
-- history hands out the rule's values, before values and flags. Of the session nothing is said but what an operation hands out
pub record CardRuns (s : Session) (c : List Net) : Type 0 where
  pub settles : (u : List ℕ) → Vector (inputs_of c) u → (start : ℕ → Bool) × Rest c (given_to c u) start
  pub rests : (u : List ℕ) → Vector (inputs_of c) u → (rest_of s u).answer ≡ Ok 0
  pub flat : (u : List ℕ) → Vector (inputs_of c) u → (start : ℕ → Bool) → Rest c (given_to c u) start
      → (words befores flags : List ℕ) → Roomy (length c) words befores flags
      → let told = history_of (rest_of s u).session words befores flags in
      HandsOut c start (λ n t. start n) told × ((n : ℕ) → n < length c → get_or told.flags n 0 ≡ 0)
  pub takes : (u : List ℕ) → Vector (inputs_of c) u → (ts : List Turn) → ((v : List ℕ) → v ∈ vectors ts → Vector (inputs_of c) v)
      → (t : Turn) → Vector (inputs_of c) t.given
      → answer_number (vector_by t.engine (after_by (rest_of s u).session ts) t.given).answer ≡ 0
  pub shows : (u : List ℕ) → Vector (inputs_of c) u → (start : ℕ → Bool) → Rest c (given_to c u) start
      → (ts : List Turn) → ((v : List ℕ) → v ∈ vectors ts → Vector (inputs_of c) v) → (t : Turn) → Vector (inputs_of c) t.given
      → (words befores flags : List ℕ) → Roomy (length c) words befores flags
      → let before = state_after c start (vectors ts) in
      HandsOut c before (value c before (given_to c t.given)) (history_of (after_by (rest_of s u).session (ts ++ (t ∷ []))) words befores flags)
