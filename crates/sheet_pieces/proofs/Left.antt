-- What is left of a session file: it falls with each piece. Assumes nothing.
use mathlib.Core.List.{List}
use Prim.Native.Nat.{ℕ, ◌+◌, ◌-◌}
use lib.ListN.{length}
use Rattle.sheet_pieces.specs.declared.Sheet.{Sheet}
use Rattle.sheet_pieces.specs.declared.Stage.{Stage}
use Rattle.sheet_pieces.specs.declared.Stage.TheVariants.{Fresh, Going, Over}

-- a number that falls with each piece until the sheet is over: of so many bytes, so many are left
abbrev pub left_at : Stage → ℕ → ℕ → ℕ
left_at Fresh all rest = all + 2
left_at Going all rest = rest + 1
left_at Over all rest = 0

unfoldable pub left : Sheet → List ℕ → ℕ
left sheet file = left_at sheet.stage (length file) (length file - sheet.at)
