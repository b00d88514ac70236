-- `trace::moved_at` meets its contract: at time 0 the before value is the earlier one, later the bit below. Assumes nothing.
use mathlib.Core.Path.{refl, ◌∙◌}
use mathlib.Core.Bool.{false}
use native.Mathlib.Omega.{arith}
use lib.ListN.{get_or}
use Rattle.word.specs.Word.{bit}
use Rattle.trace.proofs.Moves.{changed_first, changed_later, moved_net}
use Rattle.trace.proofs.Run.moved.Goals as goal

pub returns-then-t-eq0 : goal.returns-then-t-eq0
returns-then-t-eq0 c =
    let a = c.args in
    changed_first (get_or a.self.now.before.now a.n false) (bit (get_or a.self.now.words.now a.n 0)) a.t _ _ c.if-t-eq0.true c.has.ensures refl
    ∙ moved_net a.self.now.before.now a.self.now.words.now a.n a.t (omega (arith, c.requires))

pub returns : goal.returns
returns c =
    let a = c.args in
    changed_later (get_or a.self.now.before.now a.n false) (bit (get_or a.self.now.words.now a.n 0)) a.t _ _ c.if-t-eq0.false c.has-2.ensures c.has-3.ensures
    ∙ moved_net a.self.now.before.now a.self.now.words.now a.n a.t (omega (arith, c.requires))
