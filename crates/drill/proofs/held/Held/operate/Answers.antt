-- Each operation keeps what sessions keep: `operated_good`, of the bytes of the slice. Assumes nothing.
use mathlib.Core.Path.{sym, ap, subst}
use native.Mathlib.Omega.{arith}
use Rattle.session.specs.Good.{Good}
use Rattle.operations.proofs.Kept.{operated_good}
use Rattle.drill.proofs.held.Held.operate.Goals as goal

pub invariant_of-self : goal.invariant_of-self
invariant_of-self c =
    let a = c.args in
    subst Good (sym (ap (λ x. x.session) c.operate.ensures)) (operated_good a.how c.self.inside.session c.self.invariant a.given.now (λ i. omega (arith, c.type_inv.given i)))
