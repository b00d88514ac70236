use mathlib.Core.Path.{◌≡◌}
use Rattle.lists.specs.Filled.{filled}
use Rattle.bench.specs.Inner.Taken.{byte_in}
use Rattle.bench.proofs.put_bytes.Given as goal

abbrev pub invariant-loop-e : goal.invariant-loop-e
invariant-loop-e l = l.room ≡ filled (byte_in l.vars l.list.nets.now l.list.times.now l.done) l.e l.initial.room
