use mathlib.Core.Path.{◌≡◌}
use Prim.Native.Nat.{ℕ}
use Rattle.card_wiring.specs.Inner.Wires.{backs}
use Rattle.card_wiring.proofs.Wiring.gates_back.Given as goal

abbrev pub invariant-loop : goal.invariant-loop
invariant-loop l = l.levels ≡ backs (λ (g : ℕ). 1) l.self.counts.now l.self.places.now l.counter
