-- `host::shown` meets its contract: 18, 12, and then the history. Assumes nothing.
use mathlib.Core.Path.{sym, ◌∙◌}
use Rattle.std.proofs.lemmas.Result.{err_from_is_err_and, IfOk-at_ok}
use Rattle.session.specs.Good.{Good}
use Rattle.host.proofs.Answering.{history_refused, history_shown}
use Rattle.host.proofs.shown.Goals as goal

pub returns-in_err-session : goal.returns-in_err-session
returns-in_err-session c =
    let a = c.args in
    let p = err_from_is_err_and c.from_residual.result c.from_residual.ensures.1 in
    rw (p.1, p.2) (history_refused a.b.now a.words.now a.befores.now a.flags.now _ (sym c.session_in.ensures.value ∙ c.in_err-session.was))

pub history-requires : goal.history-requires
history-requires c = IfOk-at_ok Good c.in_ok-session.was c.session_in.ensures.good

pub returns : goal.returns
returns c =
    let a = c.args in
    history_shown a.b.now a.words.now a.befores.now a.flags.now c.in_ok-session.session _ (sym c.session_in.ensures.value ∙ c.in_ok-session.was) c.history.ensures
