-- `sheet_pieces::next_record` meets its contract: by what stands at the place. Assumes nothing.
use mathlib.Core.Path.{◌≡◌, refl, sym, ap, subst, ◌∙◌}
use native.Mathlib.Omega.{arith}
use lib.ListN.{length}
use Rattle.std.specs.Prelude.{Some, Ok}
use Rattle.std.proofs.lemmas.Result.{err_from_is_err_and}
use Rattle.sheet_text.specs.declared.Entry.TheVariants.{Rest, Vector}
use Rattle.sheet_pieces.specs.Pieces.{entry_piece}
use Rattle.text.proofs.Texts.{put_none}
use Rattle.sheet_pieces.proofs.Steps.{hand_back, hand_on}
use Rattle.sheet_pieces.proofs.Standing.{Placed, entry_placed}
use borrow.Author.Rules.{rules}
use Rattle.sheet_pieces.specs.Inner.Comes.{Comes}
use Rattle.sheet_text.specs.Walk.{entry_at}
use Rattle.sheet_pieces.proofs.next_record.Goals as goal
use Rattle.sheet_pieces.proofs.next_record.Goals.{In-Some-Rest, In-Some-Vector}

pub returns-in_err-entry_at : goal.returns-in_err-entry_at
returns-in_err-entry_at c =
    let a = c.args in
    let p = err_from_is_err_and c.from_residual.result c.from_residual.ensures.1 in
    rw (p.1, p.2) (ap (entry_piece a.sheet.now a.file.now) (sym c.entry_at.ensures ∙ c.in_err-entry_at.was), refl, refl)

-- a rest, or a vector, is found, and it is whole

rest_found : (c : In-Some-Rest) → Ok (Some (Rest c.in-Some-Rest.to)) ≡ entry_at c.args.file.now c.args.sheet.now.at
rest_found c = ap (λ e. Ok (Some e)) (sym c.in-Some-Rest.field-0-is) ∙ ap Ok (sym c.in-Some-Rest.is) ∙ sym c.in_ok-entry_at.was ∙ c.entry_at.ensures

vector_found : (c : In-Some-Vector) → Ok (Some (Vector c.in-Some-Vector.to)) ≡ entry_at c.args.file.now c.args.sheet.now.at
vector_found c = ap (λ e. Ok (Some e)) (sym c.in-Some-Vector.field-0-is) ∙ ap Ok (sym c.in-Some-Vector.is) ∙ sym c.in_ok-entry_at.was ∙ c.entry_at.ensures

rest_placed : (c : In-Some-Rest) → Placed (length c.args.file.now) c.args.sheet.now.at (Ok (Some (Rest c.in-Some-Rest.to)))
rest_placed c = subst (Placed (length c.args.file.now) c.args.sheet.now.at) (sym (rest_found c)) (entry_placed c.args.file.now c.args.sheet.now.at)

vector_placed : (c : In-Some-Vector) → Placed (length c.args.file.now) c.args.sheet.now.at (Ok (Some (Vector c.in-Some-Vector.to)))
vector_placed c = subst (Placed (length c.args.file.now) c.args.sheet.now.at) (sym (vector_found c)) (entry_placed c.args.file.now c.args.sheet.now.at)

pub overflow_add-from : goal.overflow_add-from
overflow_add-from c = let p = rest_placed (goal.at.overflow_add-from c).In-Some-Rest in search rules

pub slice_bounds-rest-count : goal.slice_bounds-rest-count
slice_bounds-rest-count c = (rest_placed (goal.at.slice_bounds-rest-count c).In-Some-Rest).0

pub slice_bounds-rest-start : goal.slice_bounds-rest-start
slice_bounds-rest-start c = let p = rest_placed (goal.at.slice_bounds-rest-start c).In-Some-Rest in search rules

pub slice_bounds-rest-end : goal.slice_bounds-rest-end
slice_bounds-rest-end c = let p = rest_placed (goal.at.slice_bounds-rest-end c).In-Some-Rest in search rules

pub overflow_add-from-in-Some-Vector : goal.overflow_add-from-in-Some-Vector
overflow_add-from-in-Some-Vector c = let p = vector_placed (goal.at.overflow_add-from-in-Some-Vector c).In-Some-Vector in search rules

pub slice_bounds-vector-count : goal.slice_bounds-vector-count
slice_bounds-vector-count c = (vector_placed (goal.at.slice_bounds-vector-count c).In-Some-Vector).0

pub slice_bounds-vector-start : goal.slice_bounds-vector-start
slice_bounds-vector-start c = let p = vector_placed (goal.at.slice_bounds-vector-start c).In-Some-Vector in search rules

pub slice_bounds-vector-end : goal.slice_bounds-vector-end
slice_bounds-vector-end c = let p = vector_placed (goal.at.slice_bounds-vector-end c).In-Some-Vector in search rules

pub vector-requires : goal.vector-requires
vector-requires c = record {
  standing = c.requires.standing;
  going = (c.requires.going, omega (arith, (vector_placed (goal.at.vector-requires c).In-Some-Vector).0));
}

pub returns-in-None : goal.returns-in-None
returns-in-None c =
    let a = c.args in
    hand_on a.out.now
    (ap (entry_piece a.sheet.now a.file.now) (ap Ok (sym c.in-None.is) ∙ sym c.in_ok-entry_at.was ∙ c.entry_at.ensures))
    (hand_back _ refl (put_none _ _))

pub returns-in-Some-Rest : goal.returns-in-Some-Rest
returns-in-Some-Rest c =
    let a = c.args in
    subst (λ f. Comes (entry_piece a.sheet.now a.file.now f) a.sheet.now a.out.now c.rest.result c.rest.new.sheet a.out.now)
    (rest_found (goal.at.returns-in-Some-Rest c).In-Some-Rest) (c.rest.ensures a.out.now)

pub returns-in-Some-Vector : goal.returns-in-Some-Vector
returns-in-Some-Vector c =
    let a = c.args in
    subst (λ f. Comes (entry_piece a.sheet.now a.file.now f) a.sheet.now a.out.now c.vector.result c.vector.new.sheet c.vector.new.out)
    (vector_found (goal.at.returns-in-Some-Vector c).In-Some-Vector) c.vector.ensures
