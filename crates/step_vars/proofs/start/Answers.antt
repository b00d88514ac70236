-- `step_vars::start` meets its contract: the inputs are put over the before values. Assumes nothing.
use mathlib.Core.Path.{ap, ◌∙◌}
use lib.ListN.{length}
use Rattle.inputs.specs.Inner.Starts.{nets_put, byte_word}
use Rattle.step_vars.specs.Inner.Variables.{start_in}
use Rattle.step_vars.proofs.start.Goals as goal

pub returns : goal.returns
unfolding start_in
returns c =
    let a = c.args in
    c.put_inputs.ensures ∙ ap (nets_put a.feeds.now (byte_word a.v.now) (length a.v.now)) c.flats-vars.ensures
