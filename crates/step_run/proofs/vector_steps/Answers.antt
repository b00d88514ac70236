-- `step_run::vector_steps` meets its contract: the vector's verdict decides. Assumes nothing.
use mathlib.Core.Path.{sym, ◌∙◌}
use Rattle.std.proofs.lemmas.Result.{err_from_is_err_and}
use Rattle.inputs.proofs.Verdicts.{judged_vector}
use Rattle.step_run.proofs.Vectors.{vector_refused_by, vector_run}
use Rattle.step_run.proofs.vector_steps.Goals as goal

pub run_steps-requires : goal.run_steps-requires
run_steps-requires c =
    let fits = judged_vector c.args.s.now.rested c.args.s.now.inputs c.args.v.now (sym c.judge.ensures ∙ c.in_ok-judge.was) in
    record { good = c.requires; rested_value = (fits.0, fits.1.size) }

pub returns-in_err-judge : goal.returns-in_err-judge
returns-in_err-judge c =
    let p = err_from_is_err_and c.from_residual.result c.from_residual.ensures.1 in
    rw (p.1, p.2) (vector_refused_by c.args.s.now c.args.v.now _ c.judge.ensures _ c.in_err-judge.was)

pub returns : goal.returns
returns c = c.run_steps.ensures ∙ vector_run c.args.s.now c.args.v.now _ c.judge.ensures c.in_ok-judge.was
