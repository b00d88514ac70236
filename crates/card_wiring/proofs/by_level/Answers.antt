-- `card_wiring::by_level` meets its contract. The loop's invariant: the order has the levels below l. Assumes nothing.
use native.Mathlib.Omega.{arith}
use Rattle.card_wiring.proofs.Orders.{ordered_none}
use Rattle.card_wiring.proofs.by_level.Goals as goal

pub loop-l-init : goal.loop-l-init
loop-l-init c = (omega arith, ordered_none c.args.levels.now c.args.n)
