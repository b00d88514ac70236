use mathlib.Core.Path.{◌≡◌}
use Rattle.host_many.specs.Many.{many_by}
use Rattle.host_many.proofs.run_many.Given as goal

abbrev pub invariant-loop-done : goal.invariant-loop-done
invariant-loop-done l =
    let ran = many_by l.engine l.s l.vectors l.s.inputs l.done l.initial.room in
    record { words : l.words ≡ ran.session.words; count : l.count ≡ ran.count; room : l.room ≡ ran.words }
