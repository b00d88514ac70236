-- `sheet::write_sheet` ends: each piece leaves fewer bytes of the file. Assumes nothing.
use mathlib.Core.Path.{sym, ap, ◌∙◌}
use native.Mathlib.Omega.{arith}
use Rattle.sheet_pieces.specs.Pieces.{piece_of}
use Rattle.sheet_pieces.proofs.Left.{left}
use Rattle.sheet_pieces.proofs.Standing.{going_falls}
use Rattle.sheet_pieces.proofs.Fits.{sheet_after}
use Rattle.sheet.proofs.write_sheet.Goals as goal

pub loop-to-smaller : goal.loop-to-smaller
loop-to-smaller c =
    let file = c.args.file.now in
    let l = c.loop-to in
    let next = c.next-length in
    let after = ap (λ x. left x file) (sheet_after (piece_of l.sheet file) l.out next.new.out (record { sheet = next.new.sheet; length = next.result }) next.ensures.0) in
    omega (arith, after, going_falls file l.sheet (sym c.is_over.ensures ∙ c.loop-to-test.true))
