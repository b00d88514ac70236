-- The sheet stands. The measure is what is left of the file.
use Rattle.sheet_pieces.specs.Pieces.{Standing}
use Rattle.sheet_pieces.proofs.Left.{left}
use Rattle.sheet.proofs.write_sheet.Given as goal

abbrev pub invariant-loop-to : goal.invariant-loop-to
invariant-loop-to l = Standing l.sheet

abbrev pub decreases-loop-to : goal.decreases-loop-to
decreases-loop-to l = left l.sheet l.file
