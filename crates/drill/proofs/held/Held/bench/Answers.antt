-- A bench run keeps what sessions keep: `bench_good`. Assumes nothing.
use mathlib.Core.Path.{sym, ap, subst}
use Rattle.session.specs.Good.{Good}
use Rattle.bench.proofs.Benches.{bench_good}
use Rattle.drill.proofs.held.Held.bench.Goals as goal

pub invariant_of-self : goal.invariant_of-self
invariant_of-self c =
    let a = c.args in
    subst Good (sym (ap (λ x. x.moved.session) c.bench.ensures)) (bench_good c.self.inside.session c.self.invariant a.v.now a.order.now a.k _)
