-- `host_made::made_plain` meets its contract. Assumes nothing.
use mathlib.Core.Path.{ap, ◌∙◌}
use mathlib.Core.Bool.{cond}
use Rattle.host_made.specs.Made.{broken, held, made_plain}
use Rattle.host_made.proofs.Making.{if_passed}
use Rattle.host_made.proofs.made_plain.Goals as goal

pub returns : goal.returns
unfolding made_plain
returns c = c.then_some.ensures ∙ if_passed c.rooms_fit.result c.args.s ∙ ap (λ x. cond x (held c.args.s) broken) c.rooms_fit.ensures
