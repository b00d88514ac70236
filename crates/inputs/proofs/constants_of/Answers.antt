-- `inputs::constants_of` meets its contract: the closure gives each net its constant's value. Assumes nothing.
use Rattle.std.proofs.Common.{get_or, rules}
use Rattle.lists.proofs.Made.{made_listed}
use Rattle.inputs.specs.Inner.Starts.{constant_at}
use Rattle.inputs.proofs.constants_of.Goals as goal

pub returns : goal.returns
returns c =
    made_listed _ _ (λ n. constant_at (get_or c.args.kinds.now n 0) (get_or c.args.types.now n 0)) (λ i y q k. search rules) _ _
    c.from_fn.ensures.items
