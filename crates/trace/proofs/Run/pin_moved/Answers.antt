-- `trace::pin_moved` meets its contract: what is past the arrays is the open pin, and any other pin names a net. Assumes nothing.
use mathlib.Core.Path.{sym, ap, ◌∙◌}
use mathlib.Core.Logic.{⊎_elim}
use native.Mathlib.Omega.{arith}
use Rattle.trace.specs.Inner.Caused.{moved_at}
use Rattle.trace.proofs.Moves.{moved_open}
use Rattle.trace.proofs.Run.pin_moved.Goals as goal

pub returns-then-n-ge256 : goal.returns-then-n-ge256
returns-then-n-ge256 c =
    let e = c.from-n.ensures in
    sym (moved_open c.args.self.now.before.now c.args.self.now.words.now c.args.p c.args.t (⊎_elim (λ l. absurd (omega arith)) (λ q. q) c.requires.1))

pub returns : goal.returns
returns c =
    c.moved.ensures ∙ ap (λ n. moved_at c.args.self.now.before.now c.args.self.now.words.now n c.args.t) c.from-n.ensures
