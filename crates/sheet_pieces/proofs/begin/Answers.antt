-- `sheet_pieces::begin` meets its contract. Assumes nothing.
use mathlib.Core.Path.{◌≡◌, sym, subst}
use Rattle.sheet_pieces.specs.declared.Sheet.{Sheet}
use Rattle.sheet_pieces.specs.declared.Stage.TheVariants.{Fresh}
use Rattle.sheet_pieces.specs.Pieces.{fresh, Standing}
use Rattle.sheet_pieces.proofs.Standing.{fresh_stands}
use Rattle.sheet_pieces.proofs.begin.Goals as goal

pub returns : goal.returns
unfolding fresh
returns c =
    let e : ◌≡◌ {A = Sheet} (record { session = c.empty.result; depth = 0; at = 0; vectors = 0; stage = Fresh }) fresh = λ i. record
    { session = c.empty.ensures i; depth = 0; at = 0; vectors = 0; stage = Fresh } in
    (e, subst Standing (sym e) fresh_stands)
