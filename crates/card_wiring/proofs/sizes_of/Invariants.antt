use mathlib.Core.Path.{◌≡◌}
use Prim.Native.Nat.{◌*◌, ◌≤◌}
use lib.ListN.{take}
use Rattle.card_wiring.specs.Inner.Wires.{sizes_of}
use Rattle.card_wiring.proofs.sizes_of.Given as goal

abbrev pub invariant-loop-g : goal.invariant-loop-g
invariant-loop-g l = (l.sum ≤ l.g-index * 64) × (l.sum ≡ sizes_of l.sets (take l.g-index l.order))
