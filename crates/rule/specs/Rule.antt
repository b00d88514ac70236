-- The unit-delay rule, and rest. Assumes nothing.
use Rattle.std.specs.Prelude.{◌≡◌, Bool, List, map, ℕ, zero, suc, ◌<◌, length}
use Rattle.gate.specs.Gate.{gate as gate_fn}
use Rattle.rule.specs.Net.{Net, input, constant, gate, open_value, at_pin, net_at, pins}

-- the value of a net by what it is: an input has x, the value that it is given, a constant its own, and a gate the gate's function of vs,
-- its pins' values
abbrev pub net_fn : Net → Bool → List Bool → Bool
net_fn input x vs = x
net_fn (constant k) x vs = k
net_fn (gate ty ps) x vs = gate_fn ty vs

-- "At time 0 an input takes its new value; every other net still has its before value." A constant's before value is the constant.
abbrev pub first : Net → Bool → Bool → Bool
first input new before = new
first (constant k) new before = k
first (gate ty ps) new before = before

-- net n's value at time t, from before values and the inputs' new values
-- "For t of 1 or more, a gate's net at t is the gate's function of its pins at t-1; inputs and constants don't move."
unfoldable pub value : List Net → (ℕ → Bool) → (ℕ → Bool) → ℕ → ℕ → Bool
value c before new n zero = first (net_at c n) (new n) (before n)
value c before new n (suc t) = net_fn (net_at c n) (new n) (map (λ p. value c before new p t) (pins c n))

-- "It puts every net at its settled value: each gate equals its function of its own pins." A constant has its own, an input any.
unfoldable pub AtRest : List Net → (ℕ → Bool) → Type 0
AtRest c v = (n : ℕ) → n < length c → v n ≡ net_fn (net_at c n) (v n) (map (at_pin open_value v) (pins c n))

-- what a rest vector leaves: all nets settled, the inputs at their values
pub record Rest (c : List Net) (new v : ℕ → Bool) : Type 0 where
  pub calm : AtRest c v
  pub given : (n : ℕ) → n < length c → net_at c n ≡ input → v n ≡ new n
