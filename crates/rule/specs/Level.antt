-- Levels, depth and loops. Assumes nothing.
use Rattle.std.specs.Prelude.{List, [], ◌∷◌, map, ℕ, zero, suc, ◌+◌, max, length}
use Rattle.lists.specs.Entries.{◌∈◌, from}
use Rattle.rule.specs.Net.{Net, pins}

-- the highest of some numbers, and 0 of none
abbrev pub most : List ℕ → ℕ
most [] = 0
most (x ∷ xs) = max x (most xs)

-- w more than the highest; where there are none, 0
abbrev pub over : ℕ → List ℕ → ℕ
over w [] = 0
over w (x ∷ xs) = w + most (x ∷ xs)

-- the longest way back through pins, each gate g counted as w g; no way is followed past k gates
unfoldable pub longest : (ℕ → ℕ) → (ℕ → List ℕ) → ℕ → ℕ → ℕ
longest w ps zero n = 0
longest w ps (suc k) n = over (w n) (map (longest w ps k) (ps n))

-- the delay of every gate is one unit
abbrev pub delay : List Net → ℕ → ℕ
delay c n = 1

-- gates counted backwards from n, at most k
abbrev pub gates_back : List Net → ℕ → ℕ → ℕ
gates_back c k n = longest (λ g. 1) (pins c) k n

-- Level: "inputs and constants 0, a gate 1 more than its highest pin." A card without loops has no way of more gates than nets.
unfoldable pub level : List Net → ℕ → ℕ
level c n = longest (delay c) (pins c) (length c + 1) n

-- "The card's depth is its highest level."
unfoldable pub depth : List Net → ℕ
depth c = most (map (level c) (from 0 (length c)))

-- m is reached from n through pins: m is a pin of n, or is reached from one
pub data Reaches (c : List Net) : ℕ → ℕ → Type 0 where
  near : {n m : ℕ} → m ∈ pins c n → Reaches c n m
  far : {n p m : ℕ} → p ∈ pins c n → Reaches c p m → Reaches c n m

-- "a gate reaches itself through pins"
abbrev pub Looped : List Net → Type 0
Looped c = (n : ℕ) × Reaches c n n
