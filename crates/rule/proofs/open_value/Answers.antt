-- `rule::open_value` meets its contract: it is the value that the specification names. Assumes nothing.
use mathlib.Core.Path.{refl}
use Rattle.rule.specs.Net.{open_value}
use Rattle.rule.proofs.open_value.Goals as goal

pub returns : goal.returns
unfolding open_value
returns c = refl
