use mathlib.Core.Path.{◌≡◌}
use mathlib.Core.List.{◌++◌}
use Prim.Native.Nat.{◌-◌}
use Rattle.card_wiring.specs.Inner.Wires.{row, order_of}
use Rattle.card_wiring.specs.Inner.Wired.{as_order}
use Rattle.card_wiring.proofs.with_level.Given as goal

abbrev pub invariant-loop-g : goal.invariant-loop-g
invariant-loop-g l = l.order ≡ as_order (order_of l.levels l.n (l.l - 1) ++ row l.levels l.g l.l)
