-- `sheet_pieces::step` meets its contract: by how the sheet stands. Assumes nothing.
use mathlib.Core.Path.{refl, subst}
use Rattle.text.proofs.Texts.{put_none}
use Rattle.sheet_pieces.specs.Inner.Comes.{Comes}
use Rattle.sheet_pieces.proofs.Steps.{hand_back, hand_on, piece_at_lem}
use Rattle.sheet_pieces.proofs.step.Goals as goal

pub returns-in-Fresh : goal.returns-in-Fresh
returns-in-Fresh c =
    let a = c.args in
    subst (λ p. Comes p a.sheet.now a.out.now c.open_card.result c.open_card.new.sheet c.open_card.new.out)
    (piece_at_lem a.sheet.now a.file.now _ c.in-Fresh.is) c.open_card.ensures

pub returns-in-Going : goal.returns-in-Going
returns-in-Going c =
    let a = c.args in
    subst (λ p. Comes p a.sheet.now a.out.now c.next_record.result c.next_record.new.sheet c.next_record.new.out)
    (piece_at_lem a.sheet.now a.file.now _ c.in-Going.is) c.next_record.ensures

pub returns-in-Over : goal.returns-in-Over
returns-in-Over c =
    let a = c.args in
    hand_on a.out.now (piece_at_lem a.sheet.now a.file.now _ c.in-Over.is) (hand_back _ refl (put_none _ _))
