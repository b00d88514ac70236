-- `sheet_pieces::vector` meets its contract: by what the session's vector answers. Assumes nothing.
use mathlib.Core.Path.{sym, ap, subst, ◌∙◌}
use Prim.Native.Nat.{◌+◌}
use native.Mathlib.Omega.{arith}
use Rattle.std.proofs.lemmas.Result.{err_from_is_err_and}
use Rattle.rule.specs.Level.{depth}
use Rattle.card.specs.Session.{card_of}
use Rattle.session.specs.Good.{Good}
use Rattle.session.proofs.Kept.{vector_good, vector_card, vector_rests}
use Rattle.session.proofs.Refusals.{vector_refused}
use Rattle.text.proofs.Texts.{put_same}
use Rattle.sheet_text.specs.Lines.{vector_text}
use Rattle.sheet_pieces.specs.Pieces.{moved_sheet}
use Rattle.sheet_pieces.proofs.Steps.{came_err, came_ok}
use Rattle.sheet_pieces.proofs.vector.Goals as goal

pub overflow_add-sheet : goal.overflow_add-sheet
overflow_add-sheet c = omega (arith, c.requires.standing.counted c.requires.going.0, c.requires.going.1)

pub put_vector-requires : goal.put_vector-requires
put_vector-requires c =
    let s = c.args.sheet.now.session in
    let v = c.args.v.now in
    let e = c.in_ok-vector.ensures in record {
      good = subst Good (sym (ap (λ m. m.session) e)) (vector_good s c.requires.standing.good v);
      rested_value = (
        ap (λ m. m.session.rested) e ∙ vector_rests s v _ (sym (ap (λ m. m.answer) e)),
        c.requires.standing.deep c.requires.going.0 ∙ ap depth (sym (ap (λ m. card_of m.session) e ∙ vector_card s v)),
      );
    }

pub returns-in_err-vector : goal.returns-in_err-vector
returns-in_err-vector c =
    let a = c.args in
    let e = c.in_err-vector.ensures in
    let p = err_from_is_err_and c.from_residual.result c.from_residual.ensures.1 in
    rw (p.1, p.2)
    (came_err a.sheet.now _ c.vector.new.s _ _ a.out.now e (vector_refused a.sheet.now.session a.v.now _ (sym (ap (λ m. m.answer) e))).1)

pub returns : goal.returns
returns c =
    let a = c.args in
    let sheet = a.sheet.now in
    let k = sheet.vectors + 1 in
    let e = c.in_ok-vector.ensures in
    let same = ap (λ m. m.session) e in
    came_ok sheet _ _ c.vector.new.s _ _ (record { text = vector_text k _; after = moved_sheet sheet _ a.next k }) a.out.now c.put_vector.new.out e
    (λ i. record { session = same i; depth = sheet.depth; at = a.next; vectors = k; stage = c.requires.going.0 i })
    (put_same (ap (vector_text k) same) c.put_vector.ensures)
