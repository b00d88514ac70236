-- `inputs::constant` meets its contract: `constant_at`, for a constant and for another net. Assumes nothing.
use mathlib.Core.Path.{◌∙◌}
use borrow.Author.Tests.{ne_eqb}
use Rattle.inputs.proofs.Starts.{constant_value, no_constant}
use Rattle.inputs.proofs.constant.Goals as goal

pub returns-then-kind-eq2 : goal.returns-then-kind-eq2
returns-then-kind-eq2 c = constant_value c.args.kind c.args.ty c.if-kind-eq2.true

pub returns-else-kind-eq2 : goal.returns-else-kind-eq2
returns-else-kind-eq2 c = ne_eqb c.args.kind 2 c.if-kind-eq2.false ∙ no_constant c.args.kind c.args.ty c.if-kind-eq2.false
