use mathlib.Core.Path.{◌≡◌}
use mathlib.Core.List.{map}
use Prim.Native.Nat.{ℕ}
use lib.ListN.{get_or}
use Rattle.lists.specs.Listed.{listed, upto}
use Rattle.rule.specs.Net.{at_pin}
use Rattle.rule.specs.Level.{over}
use Rattle.card_wiring.specs.Layout.{pins_at}
use Rattle.card_wiring.proofs.Wiring.sweep.Given as goal

abbrev pub invariant-loop-g : goal.invariant-loop-g
invariant-loop-g l =
    l.new ≡ listed (upto (λ (g : ℕ). over 1 (map (at_pin 0 (λ (m : ℕ). get_or l.old m 0)) (pins_at l.self.counts.now l.self.places.now g))) (λ (h : ℕ). 0) l.g) 256
