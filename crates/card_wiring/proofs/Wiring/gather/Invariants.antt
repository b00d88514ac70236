use mathlib.Core.Path.{◌≡◌}
use mathlib.Core.Bool.{Bool}
use Prim.Native.Nat.{ℕ, ◌≤◌}
use Rattle.card_wiring.proofs.Gathered.{first_pins}
use Rattle.card_wiring.proofs.Wiring.gather.Given as goal

abbrev pub invariant-loop-j : goal.invariant-loop-j
invariant-loop-j g l =
    (l.j ≤ l.count) × (l.count ≤ 8)
    × ((f : ℕ → ℕ → Bool) → ((p : ℕ) (v : _) → goal.F-post g l.read p v → (t : ℕ) → g.V.Lane.at v t ≡ f p t) → (t : ℕ) → g.V.Lane.at l.known t ≡ first_pins (λ p. f p t) l.self.places.now l.g l.ty l.j)
