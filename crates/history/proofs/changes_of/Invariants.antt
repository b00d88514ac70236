use mathlib.Core.Path.{◌≡◌}
use Rattle.word.specs.Word.{bit, moved_up}
use Rattle.word.specs.Times.{count as counted}
use Rattle.rule.specs.Flag.{changed_at}
use Rattle.history.proofs.changes_of.Given as goal

abbrev pub invariant-loop-t : goal.invariant-loop-t
invariant-loop-t l = (l.last ≡ moved_up l.before (bit l.word) l.t) × (l.count ≡ counted (changed_at l.before (bit l.word)) l.t)
