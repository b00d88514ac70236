use mathlib.Core.Path.{◌≡◌}
use lib.ListN.{take}
use Rattle.card_wiring.specs.Inner.Wires.{sets_along}
use Rattle.card_wiring.proofs.Wiring.pcsets.Given as goal

abbrev pub invariant-loop-g : goal.invariant-loop-g
invariant-loop-g l = l.sets ≡ sets_along l.self.counts.now l.self.places.now l.self.nets (take l.g-index l.order)
