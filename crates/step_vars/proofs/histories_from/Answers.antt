-- `step_vars::histories_from` meets its contract. Assumes nothing.
use Rattle.std.proofs.Common.{rules}
use Rattle.step_vars.specs.Variables.{history_from, histories_from}
use Rattle.step_vars.proofs.FromFn.{from_fn_listed}
use Rattle.step_vars.proofs.histories_from.Goals as goal

pub returns : goal.returns
unfolding histories_from
returns c =
    let a = c.args in
    from_fn_listed _ (a.vars, a.sets) (history_from a.sets.now a.vars.now) (λ i r q k. search rules) c.from_fn.result 256 0 c.from_fn.ensures.items
