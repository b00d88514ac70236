-- `bench::bench` meets its contract: the vector's verdict decides, then the run with it. Assumes nothing.
use mathlib.Core.Path.{refl, sym, ◌∙◌}
use Rattle.std.proofs.lemmas.Result.{err_from_is_err_and}
use Rattle.inputs.proofs.Verdicts.{judged_vector}
use Rattle.bench.proofs.Answers.{bench_refused_by, bench_run}
use Rattle.bench.proofs.bench.Goals as goal

pub run_bench-requires : goal.run_bench-requires
run_bench-requires c =
    let fits = judged_vector c.args.s.now.rested c.args.s.now.inputs c.args.v.now (sym c.judge.ensures ∙ c.in_ok-judge.was) in
    record { good = c.requires; rested_value = (fits.0, fits.1.size) }

pub returns-in_err-judge : goal.returns-in_err-judge
returns-in_err-judge c =
    let a = c.args in
    let p = err_from_is_err_and c.from_residual.result c.from_residual.ensures.1 in
    rw (p.1, p.2) (bench_refused_by a.s.now a.v.now a.order.now a.k a.room.now _ c.judge.ensures _ _ c.in_err-judge.was refl)

pub returns : goal.returns
returns c =
    let a = c.args in
    bench_run a.s.now a.v.now a.order.now a.k a.room.now _ c.judge.ensures _ c.in_ok-judge.was c.run_bench.ensures
