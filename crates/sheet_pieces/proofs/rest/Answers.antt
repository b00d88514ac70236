-- `sheet_pieces::rest` meets its contract: by what the session's rest answers. Assumes nothing.
use mathlib.Core.Path.{sym, ap}
use mathlib.Core.List.{[]}
use Rattle.std.proofs.lemmas.Result.{err_from_is_err_and}
use Rattle.session.proofs.Refusals.{rest_refused}
use Rattle.text.proofs.Texts.{put_none}
use Rattle.sheet_pieces.specs.Pieces.{moved_sheet}
use Rattle.sheet_pieces.proofs.Steps.{came_err, came_ok}
use Rattle.sheet_pieces.proofs.rest.Goals as goal

pub returns-in_err-rest : goal.returns-in_err-rest
returns-in_err-rest c =
    let a = c.args in
    let e = c.in_err-rest.ensures in
    let p = err_from_is_err_and c.from_residual.result c.from_residual.ensures.1 in
    λ page. rw (p.1, p.2)
    (came_err a.sheet.now _ c.rest.new.s _ _ page e (rest_refused a.sheet.now.session a.v.now _ (sym (ap (λ m. m.answer) e))).1)

pub returns : goal.returns
returns c =
    let sheet = c.args.sheet.now in
    let e = c.in_ok-rest.ensures in
    λ page. came_ok sheet _ _ c.rest.new.s _ 0 (record { text = []; after = moved_sheet sheet _ c.args.next sheet.vectors }) page page e
    (λ i. record { session = ap (λ m. m.session) e i; depth = sheet.depth; at = c.args.next; vectors = sheet.vectors; stage = c.requires.going i })
    (put_none page 0)
