-- `host_made::made_rested` meets its contract. Assumes nothing.
use mathlib.Core.Path.{sym, ap, ◌∙◌}
use Rattle.lists.proofs.Places.{part_of}
use Rattle.host_made.specs.Made.{made_by}
use Rattle.host_made.proofs.Making.{ok_refused, ok_done, by_refused, by_done, rested_not, rested_is}
use Rattle.host_made.proofs.made_rested.Goals as goal

pub returns-then-not-rooms_fit : goal.returns-then-not-rooms_fit
returns-then-not-rooms_fit c = let a = c.args in rested_not a.b.now a.s (sym c.rooms_fit.ensures ∙ c.if-not-rooms_fit.true)

pub returns-in_err-ok : goal.returns-in_err-ok
returns-in_err-ok c =
    let a = c.args in
    let r = rw part_of at c.rest.ensures in
    let refused = ok_refused c.rest.result (sym c.ok.ensures.value ∙ c.in_err-ok.was) in
    c.from_residual.ensures ∙ by_refused _ refused.0 refused.1 ∙ ap made_by r ∙ rested_is a.b.now a.s (sym c.rooms_fit.ensures ∙ c.if-not-rooms_fit.false)

pub returns : goal.returns
returns c =
    let a = c.args in
    let r = rw part_of at c.rest.ensures in
    by_done _ _ (ok_done c.rest.result _ (sym c.ok.ensures.value ∙ c.in_ok-ok.was)) ∙ ap made_by r
    ∙ rested_is a.b.now a.s (sym c.rooms_fit.ensures ∙ c.if-not-rooms_fit.false)
