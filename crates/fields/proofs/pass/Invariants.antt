use mathlib.Core.Path.{◌≡◌}
use Prim.Native.Nat.{ℕ}
use lib.ListN.{get_or}
use Rattle.lists.specs.Listed.{listed}
use Rattle.inputs.specs.Inner.Starts.{tops_of}
use Rattle.fields.specs.Inner.Fields.{passed}
use Rattle.fields.proofs.pass.Given as goal

abbrev pub invariant-loop-gate : goal.invariant-loop-gate
invariant-loop-gate l = l.words ≡ passed (tops_of l.initial.words) l.types l.wiring.counts.now l.wiring.places.now l.initial.words (listed (λ (k : ℕ). get_or l.order k 0) l.gate-index)
