use mathlib.Core.Path.{◌≡◌}
use Prim.Native.Nat.{◌+◌, ◌-◌, ◌≤◌}
use Rattle.card_wiring.specs.Inner.Wires.{order_of}
use Rattle.card_wiring.specs.Inner.Wired.{as_order}
use Rattle.card_wiring.proofs.by_level.Given as goal

abbrev pub invariant-loop-l : goal.invariant-loop-l
invariant-loop-l l = (l.l ≤ l.depth + 1) × (l.order ≡ as_order (order_of l.levels l.n (l.l - 1)))
