use mathlib.Core.Path.{◌≡◌}
use Rattle.lists.specs.Places.{area}
use Rattle.host_bytes.proofs.put_area.Given as goal

abbrev pub invariant-loop-i : goal.invariant-loop-i
invariant-loop-i l = l.b ≡ area l.initial.b l.at l.i l.v
