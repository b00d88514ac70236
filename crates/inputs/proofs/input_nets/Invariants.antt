use mathlib.Core.Path.{◌≡◌}
use Rattle.inputs.specs.Inputs.{rank, input_nets}
use Rattle.inputs.proofs.input_nets.Given as goal

abbrev pub invariant-loop-n : goal.invariant-loop-n
invariant-loop-n l = (l.j ≡ rank l.kinds l.n) × (l.nets ≡ input_nets l.kinds l.n)
