-- `step_vars::read_at` meets its contract. Assumes nothing.
use mathlib.Core.Path.{sym, ◌∙◌}
use Prim.Native.Nat.{◌<◌}
use Rattle.rule.proofs.Nets.{open_is}
use Rattle.step_vars.proofs.Pins.{pin_names, read_open, read_net}
use Rattle.step_vars.proofs.read_at.Goals as goal
use Rattle.step_vars.proofs.read_at.Goals.{After-from-n}

-- a pin that is not open names a net
below : (c : After-from-n) → c.from-n.result < 256
below c = pin_names c.args.p c.from-n.result c.requires.1 (λ q. c.if-p-eq-OPEN.false (q ∙ open_is)) c.from-n.ensures

pub returns-then-p-eq-OPEN : goal.returns-then-p-eq-OPEN
returns-then-p-eq-OPEN c = let a = c.args in read_open a.loose a.words.now a.sets.now a.t a.p (c.if-p-eq-OPEN.true ∙ sym open_is)

pub bounds-sets-n : goal.bounds-sets-n
bounds-sets-n c = below (goal.at.bounds-sets-n c).After-from-n

pub bounds-words-n : goal.bounds-words-n
bounds-words-n c = below (goal.at.bounds-words-n c).After-from-n

pub largest_below-requires : goal.largest_below-requires
largest_below-requires c = c.requires.0

pub returns : goal.returns
returns c =
    let a = c.args in
    read_net a.loose a.words.now a.sets.now a.t a.p _ _ _ (λ q. c.if-p-eq-OPEN.false (q ∙ open_is))
    c.from-n.ensures c.largest_below.ensures c.has.ensures
