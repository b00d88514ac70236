use mathlib.Core.Path.{◌≡◌}
use mathlib.Core.List.{map}
use Prim.Native.Nat.{ℕ}
use lib.ListN.{get_or, take}
use Rattle.lists.specs.Entries.{some}
use Rattle.word.specs.Word.{bit}
use Rattle.rule.specs.Net.{at_pin}
use Rattle.card_wiring.proofs.Wiring.set_of.Given as goal

abbrev pub invariant-loop-p : goal.invariant-loop-p
invariant-loop-p l = (t : ℕ) → bit l.all.word t ≡ some (λ (w : ℕ). bit w t) (map (at_pin 1 (λ (m : ℕ). get_or l.sets m 0)) (take l.p-index l.p-items))
