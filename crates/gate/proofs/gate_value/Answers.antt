-- A gate's value of what its pins come to, at every time. Assumes nothing.
use mathlib.Core.Path.{ap, ◌∙◌}
use Rattle.word.specs.Word.{differ}
use Rattle.gate.proofs.gate_value.Goals as goal

pub returns : goal.returns
returns g c t l =
    let a = c.args in
    g.met.V.Lane.xor_at a.all _ _ c.bitxor.ensures t ∙ ap (differ (g.V.Lane.at a.all t)) (c.spread.ensures t l)
