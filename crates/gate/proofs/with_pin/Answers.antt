-- One pin more, at every time: `pin_odd`, `pin_some` and `pin_every`. Assumes nothing.
use mathlib.Core.Path.{sym, ◌∙◌}
use native.Mathlib.Omega.{arith}
use Rattle.gate.proofs.Pins.{pin_odd, pin_some, pin_every}
use Rattle.gate.proofs.with_pin.Goals as goal

pub returns-then-ty-gt5 : goal.returns-then-ty-gt5
returns-then-ty-gt5 g c t =
    let a = c.args in
    g.met.V.Lane.xor_at a.known a.pin _ c.bitxor.ensures t ∙ pin_odd a.ty (g.V.Lane.at a.known t) (g.V.Lane.at a.pin t) (omega arith)

pub returns-then-rule : goal.returns-then-rule
returns-then-rule g c t =
    let a = c.args in
    g.met.V.Lane.or_at a.known a.pin _ c.bitor.ensures t
    ∙ pin_some a.ty (g.V.Lane.at a.known t) (g.V.Lane.at a.pin t) (omega arith) (sym c.requires ∙ c.if-rule.true)

pub returns : goal.returns
returns g c t =
    let a = c.args in
    g.met.V.Lane.and_at a.known a.pin _ c.bitand.ensures t
    ∙ pin_every a.ty (g.V.Lane.at a.known t) (g.V.Lane.at a.pin t) (omega arith) (sym c.requires ∙ c.if-rule.false)
