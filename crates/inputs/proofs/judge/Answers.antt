-- `inputs::judge` meets its contract: its tests are the refusals in their order. Assumes nothing.
use mathlib.Core.Path.{◌≡◌, sym, ◌∙◌}
use mathlib.Core.Bool.{true}
use Rattle.inputs.proofs.Verdicts.{not_ready, bad_length, bad_byte, all_pass}
use Rattle.inputs.proofs.judge.Goals as goal
use Rattle.inputs.proofs.judge.Goals.{Else-not-ready}

-- past the first test all is ready, past the second the length fits
ready : (c : Else-not-ready) → c.args.ready ≡ true
ready c = c.if-not-ready.false

pub returns-then-not-ready : goal.returns-then-not-ready
returns-then-not-ready c = let a = c.args in not_ready a.ready a.inputs a.v.now (c.if-not-ready.true)

pub returns-then-v-inputs : goal.returns-then-v-inputs
returns-then-v-inputs c =
    let a = c.args in
    bad_length a.ready a.inputs a.v.now (ready (goal.at.returns-then-v-inputs c).Else-not-ready) c.if-v-inputs.true

pub returns-then-not-bytes_fit : goal.returns-then-not-bytes_fit
returns-then-not-bytes_fit c =
    let a = c.args in
    bad_byte a.ready a.inputs a.v.now (ready (goal.at.returns-then-not-bytes_fit c).Else-not-ready) c.if-v-inputs.false (sym c.bytes_fit.ensures ∙ c.if-not-bytes_fit.true)

pub returns : goal.returns
returns c =
    let a = c.args in
    all_pass a.ready a.inputs a.v.now (ready (goal.at.returns c).Else-not-ready) c.if-v-inputs.false (sym c.bytes_fit.ensures ∙ c.if-not-bytes_fit.false)
