use mathlib.Core.Path.{◌≡◌}
use mathlib.Core.Bool.{true, ◌&&◌}
use Prim.Native.Nat.{ℕ, ◌+◌, ◌-◌, ◌≤◌, ◌<◌}
use lib.Dec.{leb}
use lib.ListN.{length}
use Rattle.word.specs.Word.{bit}
use Rattle.word.specs.Times.{least}
use Rattle.step_list.specs.Inner.Listing.{times_in, Adds}
use Rattle.step_list.proofs.put_net.Given as goal

abbrev pub invariant-loop-t : goal.invariant-loop-t
invariant-loop-t l =
    (0 < l.t) × (l.t ≤ 64) × (l.t < 64 → bit l.set l.t ≡ true) × (l.next ≡ l.at + length (times_in l.set l.g (l.t - 1))) × Adds l.initial.nets l.initial.times l.at (times_in l.set l.g (l.t - 1)) l.nets l.times l.next
    × ((u : ℕ) → bit l.left.word u ≡ leb l.t u && bit l.set u) × (l.t ≡ least (bit l.left.word) 64)

abbrev pub decreases-loop-t : goal.decreases-loop-t
decreases-loop-t l = 64 - l.t
