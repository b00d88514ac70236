use mathlib.Core.Path.{◌≡◌}
use Rattle.lists.specs.Filled.{filled}
use Rattle.history.specs.Told.{before_byte, flag_at}
use Rattle.history.proofs.history.Given as goal

abbrev pub invariant-loop-i : goal.invariant-loop-i
invariant-loop-i l = (l.befores ≡ filled (before_byte l.s) l.i l.initial.befores) × (l.flags ≡ filled (flag_at l.s) l.i l.initial.flags)
