-- Chains of gates, and PC-sets. Assumes nothing.
use Rattle.std.specs.Prelude.{◌≡◌, Bool, true, List, ℕ, zero, suc}
use Rattle.lists.specs.Entries.{◌∈◌, some}
use Rattle.rule.specs.Net.{Net, net_at, pins, is_source}

-- a chain of t gates joins an input or a constant to n: it starts at an input, a constant or an open pin, and each gate is a
-- pin of the next
pub data Chain (c : List Net) : ℕ → ℕ → Type 0 where
  start : {n : ℕ} → is_source (net_at c n) ≡ true → Chain c n 0
  link : {n p t : ℕ} → p ∈ pins c n → Chain c p t → Chain c n (suc t)

-- PC-set: "{0} for inputs and constants; for a gate, the union over its pins, each element raised by 1."
-- t is in the set of n:
unfoldable pub pc_set : List Net → ℕ → ℕ → Bool
pc_set c n zero = is_source (net_at c n)
pc_set c n (suc t) = some (λ p. pc_set c p t) (pins c n)
