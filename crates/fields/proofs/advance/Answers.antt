-- `fields::advance` meets its contract: the inputs are put, and the gates' fields follow. Assumes nothing.
use mathlib.Core.Path.{ap, ◌∙◌}
use lib.ListN.{length}
use Rattle.inputs.specs.Inner.Starts.{tops_of}
use Rattle.fields.specs.Inner.Fields.{passed}
use Rattle.inputs.proofs.Starts.{length_put}
use Rattle.fields.proofs.advance.Goals as goal

pub put_inputs-requires : goal.put_inputs-requires
put_inputs-requires c = let p = c.requires.v_len_bound in (p.0, p.1)

pub pass-requires : goal.pass-requires
pass-requires c =
    record { gates = c.requires.gates; by_index = c.requires.by_index; words_len = ap length c.put_inputs.ensures ∙ length_put _ _ _ _ ∙ c.requires.v_len_bound.2 }

pub returns : goal.returns
returns c =
    let a = c.args in
    c.pass.ensures
    ∙ ap (λ ws. passed (tops_of ws) a.types.now a.wiring.counts.now a.wiring.places.now ws a.order.now) c.put_inputs.ensures
