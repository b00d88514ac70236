-- `sheet_pieces::next` meets its contract: a step that came to a piece, or a refusal with its line. Assumes nothing.
use mathlib.Core.Path.{refl}
use native.Mathlib.Omega.{arith}
use Rattle.sheet_pieces.specs.Pieces.{piece_of}
use Rattle.sheet_pieces.proofs.Steps.{comes_refused}
use Rattle.sheet_pieces.proofs.Fits.{piece_kept}
use Rattle.sheet_pieces.proofs.next.Goals as goal

pub returns-in-Ok : goal.returns-in-Ok
returns-in-Ok c =
    let a = c.args in
    piece_kept a.file.now (λ i. omega (arith, c.type_inv.file i)) (omega arith) a.sheet.now c.requires _ _ _ c.in-Ok.ensures

pub returns-in-Err : goal.returns-in-Err
returns-in-Err c =
    let a = c.args in
    piece_kept a.file.now (λ i. omega (arith, c.type_inv.file i)) (omega arith) a.sheet.now c.requires _ _ _
    (comes_refused (piece_of a.sheet.now a.file.now) a.sheet.now c.in-Err.why c.step.new.sheet _ a.out.now c.step.new.out _ _ c.in-Err.ensures refl c.put_refused.ensures)
