-- `host_made::made_moved` meets its contract. Assumes nothing.
use mathlib.Core.Path.{◌≡◌, sym, ap, subst, ◌∙◌}
use mathlib.Core.Bool.{true}
use Rattle.lists.specs.Places.{part}
use Rattle.lists.proofs.Places.{part_of}
use Rattle.session.specs.Good.{Good}
use Rattle.session.specs.Moves.{rest_of}
use Rattle.session.proofs.Kept.{rest_good}
use Rattle.host_bytes.specs.Layout.{older_at}
use Rattle.host_made.specs.Made.{made_by, fitting}
use Rattle.host_made.proofs.Making.{ok_refused, ok_done, by_refused, by_done, moved_not, moved_refused, moved_is}
use Rattle.host_made.proofs.made_moved.Goals as goal
use Rattle.host_made.proofs.made_moved.Goals.{After-rest}

-- the rooms fit, and it is the older vector that it is rested by
fits : (c : After-rest) → (let a = c.args in fitting a.b.now a.s.inputs a.s.inputs ≡ true)
fits c = sym c.rooms_fit.ensures ∙ c.if-not-rooms_fit.false

rested : (c : After-rest) → (let a = c.args in record { answer = c.rest.result; session = c.rest.new.s } ≡ rest_of a.s (part a.b.now older_at a.s.inputs))
rested c = rw part_of at c.rest.ensures

pub returns-then-not-rooms_fit : goal.returns-then-not-rooms_fit
returns-then-not-rooms_fit c = let a = c.args in moved_not a.b.now a.s a.engine (sym c.rooms_fit.ensures ∙ c.if-not-rooms_fit.true)

pub returns-in_err-ok : goal.returns-in_err-ok
returns-in_err-ok c =
    let a = c.args in
    let p = (goal.at.returns-in_err-ok c).After-rest in
    let refused = ok_refused c.rest.result (sym c.ok.ensures.value ∙ c.in_err-ok.was) in
    c.from_residual.ensures ∙ moved_refused a.b.now a.s a.engine (fits p) _ (rested p) refused.0 refused.1

pub vector_by-requires : goal.vector_by-requires
vector_by-requires c = subst (λ x. Good x.session) (sym c.rest.ensures) (rest_good c.args.s c.requires.good.0 _)

pub returns-in_err-ok-2 : goal.returns-in_err-ok-2
returns-in_err-ok-2 c =
    let a = c.args in
    let p = (goal.at.returns-in_err-ok-2 c).After-rest in
    let refused = ok_refused c.vector_by.result (sym c.ok-2.ensures.value ∙ c.in_err-ok-2.was) in
    c.from_residual-in_err-ok-2.ensures ∙ by_refused _ refused.0 refused.1 ∙ ap made_by (rw part_of at c.vector_by.ensures)
    ∙ moved_is a.b.now a.s a.engine (fits p) _ (rested p) _ (ok_done c.rest.result _ (sym c.ok.ensures.value ∙ c.in_ok-ok.was))

pub returns : goal.returns
returns c =
    let a = c.args in
    let p = (goal.at.returns c).After-rest in
    by_done _ _ (ok_done c.vector_by.result _ (sym c.ok-2.ensures.value ∙ c.in_ok-ok-2.was)) ∙ ap made_by (rw part_of at c.vector_by.ensures)
    ∙ moved_is a.b.now a.s a.engine (fits p) _ (rested p) _ (ok_done c.rest.result _ (sym c.ok.ensures.value ∙ c.in_ok-ok.was))
