-- `bench::among` meets its contract. The loop's invariant: the first entries are marked, nothing else. Assumes nothing.
use mathlib.Core.Path.{◌≡◌, ap, ◌∙◌}
use native.Mathlib.Omega.{arith}
use lib.ListN.{length, take}
use lib.Seq.{take-length}
use Rattle.lists.specs.Listed.{listed}
use Rattle.lists.specs.Entries.{some}
use lib.Dec.{eqb}
use Rattle.step_orders.proofs.Seen.{marks_none, marks_more}
use Rattle.bench.proofs.among.Goals as goal

pub loop-e-init : goal.loop-e-init
loop-e-init c = marks_none c.args.entries.now 4096

pub loop-e-preserved : goal.loop-e-preserved
loop-e-preserved c =
    let a = c.args in
    let l = c.loop-e in
    marks_more a.entries.now l.e-index (omega arith) 4096 c.from.result l.out c.from.ensures (omega (arith, c.from.ensures, c.requires l.e-index (omega arith))) l.invariant

pub returns : goal.returns
returns c =
    let a = c.args in
    let e : c.loop-e.e-index ≡ length a.entries.now = omega arith in
    c.loop-e.invariant ∙ ap (λ xs. listed (λ e. some (λ x. eqb x e) xs) 4096) (ap (λ k. take k a.entries.now) e ∙ take-length a.entries.now)
