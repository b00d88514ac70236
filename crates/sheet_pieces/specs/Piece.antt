-- A piece of a sheet, as `next` hands it back. Assumes nothing.
use Rattle.std.specs.Prelude.{ℕ}
use Rattle.sheet_pieces.specs.declared.Sheet.{Sheet}

-- the sheet after a piece, and the length of the piece's text
pub record Piece : Type 0 where
  pub sheet : Sheet
  pub length : ℕ
