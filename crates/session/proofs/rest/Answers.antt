-- `session::rest` meets its contract: the vector's verdict decides, and one that fits settles the session. Assumes nothing.
use mathlib.Core.Path.{sym, ◌∙◌}
use Rattle.std.proofs.lemmas.Result.{err_from_is_err_and}
use Rattle.inputs.proofs.Verdicts.{judged_vector}
use Rattle.session.proofs.Answers.{rest_refused_by, rest_done}
use Rattle.session.proofs.rest.Goals as goal

pub settle-requires : goal.settle-requires
settle-requires c =
    let fits = judged_vector c.args.s.now.loaded c.args.s.now.inputs c.args.v.now (sym c.judge.ensures ∙ c.in_ok-judge.was) in
    record { good = c.requires; loaded_value = (fits.0, fits.1.size) }

pub returns-in_err-judge : goal.returns-in_err-judge
returns-in_err-judge c =
    let p = err_from_is_err_and c.from_residual.result c.from_residual.ensures.1 in
    rw (p.1, p.2) (rest_refused_by c.args.s.now c.args.v.now _ c.judge.ensures _ c.in_err-judge.was)

pub returns : goal.returns
returns c = rest_done c.args.s.now c.args.v.now _ c.judge.ensures _ c.settle.ensures c.in_ok-judge.was
