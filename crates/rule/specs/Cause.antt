-- Causes. "A trace starts from a net and a time at which it changed. The net asks its gate, and the gate asks the first pin that changed
-- one unit earlier, until an input at time 0 is reached." Assumes nothing.
use Rattle.std.specs.Prelude.{Bool, cond, List, [], ◌∷◌, ℕ, zero, suc}
use Rattle.rule.specs.Net.{Net, pins, open_pin}

-- the first of some pins that passes the test; the open pin, which never changes, where none does
abbrev pub first_pin : (ℕ → Bool) → List ℕ → ℕ
first_pin f [] = open_pin
first_pin f (p ∷ ps) = cond (f p) p (first_pin f ps)

-- "It writes the nets on the way, t+1 of them." `moved n t`: net n changed at time t
unfoldable pub causes : List Net → (ℕ → ℕ → Bool) → ℕ → ℕ → List ℕ
causes c moved n zero = n ∷ []
causes c moved n (suc t) = n ∷ causes c moved (first_pin (λ p. moved p t) (pins c n)) t
