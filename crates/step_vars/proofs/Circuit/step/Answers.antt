-- `step_vars::Circuit::step` meets its contract. Assumes nothing.
use Rattle.std.proofs.Common.{rules}
use mathlib.Core.Path.{◌≡◌, ap, ◌∙◌}
use native.Mathlib.Omega.{arith}
use Rattle.step_vars.specs.Variables.{held_in, read_in}
use Rattle.step_vars.proofs.Pins.{pin_value, value_made}
use Rattle.step_vars.proofs.Stores.{step_made}
use Rattle.step_vars.proofs.Circuit.step.Goals as goal

pub rule_of-rule-requires : goal.rule_of-rule-requires
rule_of-rule-requires c = omega (arith, c.from-ty.ensures, c.requires.gates.type)

pub gather-all-requires : goal.gather-all-requires
gather-all-requires c =
    let g = c.requires.gates in
    let late = c.requires.step_time.0.late in
    record { g_bound = (g.net, g.pinned, c.rule_of-rule.ensures.0); readable = λ p q. search rules }

pub returns : goal.returns
returns c =
    let a = c.args in
    let w = a.self.wiring in
    let ty = c.from-ty in
    let rule = c.rule_of-rule in
    let all = c.gather-all in
    let b = c.gate_value-b in
    let value = all.ensures (λ p t. pin_value a.vars.now a.self.sets.now a.t p)
    (λ p v h t. let own : v ≡ held_in c.open_value-loose.result a.vars.now (read_in a.self.sets.now a.t p) = search rules in own ∙ ap (λ loose. held_in loose a.vars.now (read_in a.self.sets.now a.t p)) c.open_value-loose.ensures) 0 in
    step_made a.self.types.now w.counts.now w.places.now a.self.sets.now a.vars.now a.g a.t
    c.put.result b.result c.requires.gates.net c.requires.step_time.1
    (value_made a.vars.now w.counts.now w.places.now a.self.sets.now a.g a.t a.self.types.now ty.result rule.result.inversion all.result b.result c.requires.gates ty.ensures rule.ensures.1 value (b.ensures 0 (omega arith)))
    (omega (arith, c.put.type_inv)) c.put.ensures
