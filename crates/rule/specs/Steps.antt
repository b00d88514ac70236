-- The steps of a card: which they are, what each reads, in what order they may be done, and how they are numbered. Assumes nothing.
use Rattle.std.specs.Prelude.{◌≡◌, Bool, true, false, ◌&&◌, List, [], ◌∷◌, map, ◌⊎◌, ℕ, ◌<◌, eqb, length, get_or}
use Rattle.lists.specs.Entries.{◌∈◌, each, when, from, Sorted, Distinct}
use Rattle.word.specs.Times.{greatest, no_time, zero_in}
use Rattle.rule.specs.Net.{Net, net_at, pins, is_source}
use Rattle.rule.specs.Rule.{net_fn}
use Rattle.rule.specs.Chain.{Chain, pc_set}
use Rattle.rule.specs.Level.{level, depth}

-- a net and a time: a step, and the variable that it writes. The variable of the inserted 0 has the time 0
pub record Step : Type 0 where
  pub net : ℕ
  pub time : ℕ

abbrev pub same_step : Step → Step → Bool
same_step j k = eqb j.net k.net && eqb j.time k.time

-- "A step is a gate net and an element of its PC-set without the inserted 0."
pub record IsStep (c : List Net) (k : Step) : Type 0 where
  pub gated : is_source (net_at c k.net) ≡ false
  pub element : pc_set c k.net k.time ≡ true

-- "gate-and-time pairs that have a chain": a gate, and a time t such that some chain of t gates joins it to an input or constant
pub record Joined (c : List Net) (k : Step) : Type 0 where
  pub gated : is_source (net_at c k.net) ≡ false
  pub chain : Chain c k.net k.time

-- "It reads, for each pin, the variable of the pin's largest element strictly below the step's time." The inserted 0 is put in
-- here; no other definition of the rule has it.
unfoldable pub read_at : List Net → ℕ → ℕ → Step
read_at c t p = record { net = p; time = greatest (zero_in (pc_set c p)) t no_time }

unfoldable pub step_reads : List Net → Step → List Step
step_reads c k = map (read_at c k.time) (pins c k.net)

-- a step's gate function; an input, which has no steps, would be given 0
unfoldable pub step_fn : List Net → Step → List Bool → Bool
step_fn c k vs = net_fn (net_at c k.net) false vs

-- "any order that has each step once and no step before one whose value it reads" (demand 3)
pub record GoodOrder (c : List Net) (ks : List Step) : Type 0 where
  pub all : (k : Step) → IsStep c k → k ∈ ks
  pub only : (k : Step) → k ∈ ks → IsStep c k
  pub once : Distinct ks
  pub after : Sorted (λ k later. ¬ (later ∈ step_reads c k)) ks

-- by level, then net
abbrev pub EarlierGate : List Net → ℕ → ℕ → Type 0
EarlierGate c m n = (level c m < level c n) ⊎ ((level c m ≡ level c n) × (m < n))

-- by level, then net, then time
abbrev pub Earlier : List Net → Step → Step → Type 0
Earlier c j k = EarlierGate c j.net k.net ⊎ ((j.net ≡ k.net) × (j.time < k.time))

-- the gates by level, then net
unfoldable pub gate_order : List Net → List ℕ
gate_order c = each (λ l. each (λ n. when (eqb (level c n) l) (n ∷ [])) (from 0 (length c))) (from 1 (depth c))

-- the steps of net n by time, up to time d
unfoldable pub net_steps : List Net → ℕ → ℕ → List Step
net_steps c d n = each (λ t. when (pc_set c n t) (record { net = n; time = t } ∷ [])) (from 1 d)

-- "Steps are numbered from 0 by level, then net, then time."
unfoldable pub step_list : List Net → List Step
step_list c = each (net_steps c (depth c)) (gate_order c)

abbrev pub no_step : Step
no_step = record { net = 0; time = 0 }

-- step number e of a card
abbrev pub step_at : List Step → ℕ → Step
step_at ks e = get_or ks e no_step
