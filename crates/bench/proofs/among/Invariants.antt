use mathlib.Core.Path.{◌≡◌}
use Rattle.lists.specs.Listed.{listed}
use Rattle.step_orders.proofs.Seen.{stands}
use Rattle.bench.proofs.among.Given as goal

abbrev pub invariant-loop-e : goal.invariant-loop-e
invariant-loop-e l = l.out ≡ listed (stands l.entries l.e-index) 4096
