-- The empty session keeps what the operations ask. Assumes nothing.
use mathlib.Core.Path.{sym, subst}
use Rattle.session.proofs.Kept.{none_good}
use Rattle.session.specs.Good.{Good}
use Rattle.drill.proofs.held.Held.new.Goals as goal

pub invariant_of-result : goal.invariant_of-result
invariant_of-result c = subst Good (sym c.empty.ensures) none_good
