use mathlib.Core.Path.{◌≡◌}
use mathlib.Core.List.{map}
use Prim.Native.Nat.{ℕ}
use lib.ListN.{get_or, take}
use Rattle.rule.specs.Net.{at_pin}
use Rattle.rule.specs.Level.{over}
use Rattle.card_wiring.proofs.Wiring.over_pins.Given as goal

abbrev pub invariant-loop-p : goal.invariant-loop-p
invariant-loop-p l = l.over ≡ over 1 (map (at_pin 0 (λ (m : ℕ). get_or l.old m 0)) (take l.p-index l.p-items))
