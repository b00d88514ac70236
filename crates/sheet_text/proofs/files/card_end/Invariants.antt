use mathlib.Core.Path.{◌≡◌}
use Prim.Native.Nat.{◌+◌, ◌-◌, ◌≤◌}
use lib.ListN.{length}
use Rattle.sheet_text.specs.Walk.{card_end}
use Rattle.sheet_text.proofs.Walks.{ending}
use Rattle.sheet_text.proofs.files.card_end.Given as goal

abbrev pub invariant-loop-at : goal.invariant-loop-at
invariant-loop-at l = (l.at ≤ length l.file + 65540) × (ending l.file l.at ≡ card_end l.file)

abbrev pub decreases-loop-at : goal.decreases-loop-at
decreases-loop-at l = length l.file + 65540 - l.at
