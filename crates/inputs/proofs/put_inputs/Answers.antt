-- `inputs::put_inputs` meets its contract. The loop's invariant: the first j bytes are put. Assumes nothing.
use mathlib.Core.Path.{ap, ◌∙◌}
use Rattle.word.specs.Word.{word_of}
use Rattle.inputs.proofs.Vectors.{not_zero}
use Rattle.inputs.proofs.Starts.{put_none, put_more}
use Rattle.inputs.proofs.put_inputs.Goals as goal

pub loop-j-init : goal.loop-j-init
loop-j-init c = put_none _ _ _

pub loop-j-preserved : goal.loop-j-preserved
loop-j-preserved c =
    let l = c.loop-j in
    put_more _ _ _ l.words l.j c.from.result c.flat.result c.from.ensures (c.flat.ensures ∙ ap (λ b. word_of 64 (λ t. b)) (not_zero _)) l.invariant
