use mathlib.Core.Path.{◌≡◌}
use Rattle.inputs.specs.Inner.Starts.{nets_put, byte_word}
use Rattle.inputs.proofs.put_inputs.Given as goal

abbrev pub invariant-loop-j : goal.invariant-loop-j
invariant-loop-j l = l.words ≡ nets_put l.inputs (byte_word l.v) l.j l.initial.words
