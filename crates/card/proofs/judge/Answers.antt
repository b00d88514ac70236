-- `card::judge` meets its contract: its tests are load's, 9 and then the wiring's verdict. Assumes nothing.
use mathlib.Core.Path.{◌∙◌}
use Rattle.card.proofs.Reading.{judge_none, judge_some}
use Rattle.card.proofs.judge.Goals as goal

pub returns-then-inputs-eq0 : goal.returns-then-inputs-eq0
returns-then-inputs-eq0 c =
    let a = c.args.card.now in
    judge_none c.args.session.now a.nets a.kinds a.types a.counts a.places c.inputs_below-inputs.result c.inputs_below-inputs.ensures c.if-inputs-eq0.true

pub returns : goal.returns
returns c =
    let a = c.args.card.now in
    c.conclude.ensures
    ∙ judge_some c.args.session.now a.nets a.kinds a.types a.counts a.places c.inputs_below-inputs.result c.inputs_below-inputs.ensures c.if-inputs-eq0.false
