-- `host_many::keep_many` meets its contract. Assumes nothing.
use mathlib.Core.Path.{ap, ◌∙◌}
use Prim.Native.Nat.{◌-◌}
use Rattle.host_many.specs.Many.{kept_at}
use Rattle.host_many.proofs.Many.{kept_none, kept_one, kept_two}
use Rattle.host_many.proofs.keep_many.Goals as goal

pub returns-then-k-eq0 : goal.returns-then-k-eq0
returns-then-k-eq0 c = let a = c.args in kept_none a.engine a.b.now a.vectors.now a.n a.k c.if-k-eq0.true

pub returns-then-k-eq1 : goal.returns-then-k-eq1
returns-then-k-eq1 c =
    let a = c.args in
    c.keep_at.ensures ∙ kept_one a.engine a.b.now a.vectors.now a.n a.k c.if-k-eq1.true

pub returns : goal.returns
returns c =
    let a = c.args in
    c.keep_at-3.ensures ∙ ap (λ x. kept_at a.engine x a.vectors.now a.n (a.k - 1)) c.keep_at-2.ensures ∙ kept_two a.engine a.b.now a.vectors.now a.n a.k c.if-k-eq0.false c.if-k-eq1.false
