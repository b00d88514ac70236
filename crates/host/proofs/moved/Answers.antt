-- `host::moved` meets its contract: 18, 12, and then the operation. Assumes nothing.
use mathlib.Core.Path.{◌≡◌, sym, ap, ◌∙◌}
use Rattle.std.specs.Prelude.{Ok}
use Rattle.std.proofs.lemmas.Result.{err_from_is_err_and, IfOk-at_ok}
use Rattle.session.specs.Good.{Good}
use Rattle.host.specs.Calls.{packed, session_in, left_by}
use Rattle.host.proofs.Answering.{in_says, move_refused, move_left}
use Rattle.host.proofs.moved.Goals as goal
use Rattle.host.proofs.moved.Goals.{In_ok-session}

-- the bytes hold a session
held : (c : In_ok-session) → session_in c.args.b.now ≡ Ok c.in_ok-session.session
held c = sym c.session_in.ensures.value ∙ c.in_ok-session.was

pub returns-in_err-session : goal.returns-in_err-session
returns-in_err-session c =
    let a = c.args in
    let p = err_from_is_err_and c.from_residual.result c.from_residual.ensures.1 in
    rw (p.1, p.2) (move_refused a.how a.b.now a.v.now _ (sym c.session_in.ensures.value ∙ c.in_err-session.was))

pub operate-requires : goal.operate-requires
operate-requires c = IfOk-at_ok Good c.in_ok-session.was c.session_in.ensures.good

pub returns-in_err-count : goal.returns-in_err-count
returns-in_err-count c =
    let a = c.args in
    let p = err_from_is_err_and c.from_residual-in_err-count.result c.from_residual-in_err-count.ensures.1 in
    rw (p.1, p.2)
    (sym (ap (λ x. left_by a.how x a.b.now a.v.now) c.in_err-count.was) ∙ ap (λ m. left_by a.how m.answer a.b.now a.v.now) c.operate.ensures
    ∙ move_left a.how a.b.now a.v.now _ (held (goal.at.returns-in_err-count c).In_ok-session))

pub keep-requires : goal.keep-requires
keep-requires c = (in_says c.args.b.now _ (held (goal.at.keep-requires c).In_ok-session)).0

pub returns : goal.returns
returns c =
    let a = c.args in
    ap (λ x. record { answer = packed (Ok c.in_ok-count.count); bytes = x }) c.keep.ensures
    ∙ sym (ap (λ x. left_by a.how x a.b.now a.v.now) c.in_ok-count.was) ∙ ap (λ m. left_by a.how m.answer a.b.now a.v.now) c.operate.ensures
    ∙ move_left a.how a.b.now a.v.now _ (held (goal.at.returns c).In_ok-session)
