-- `Wiring::with_sets` meets its contract: the order is read back from its array, the sets are those along it, and the test is on their sizes.
-- Assumes nothing.
use mathlib.Core.Path.{ap, ◌∙◌}
use native.Mathlib.Omega.{arith}
use Rattle.card_wiring.specs.Inner.Wires.{order_of, sets_along, sizes_of}
use Rattle.card_wiring.proofs.Orders.{order_short, order_nets, ordered_fits, ordered_front}
use Rattle.card_wiring.proofs.Judged.{Along, sets_refused, sets_passed}
use Rattle.card_wiring.proofs.Wiring.with_sets.Goals as goal
use Rattle.card_wiring.proofs.Wiring.with_sets.Goals.{After-sizes_of}

pub as_slice-requires : goal.as_slice-requires
as_slice-requires c = let w = c.args.self in ordered_fits c.args.levels.now w.nets c.args.depth w.wires.few c.by_level-order.result c.by_level-order.ensures

pub pcsets-sets-requires : goal.pcsets-sets-requires
pcsets-sets-requires c i =
    let w = c.args.self in
    let front = ordered_front c.args.levels.now w.nets c.args.depth w.wires.few c.by_level-order.result c.by_level-order.ensures in
    rw (c.as_slice.ensures ∙ front) (order_nets c.args.levels.now w.nets c.args.depth w.wires.few i)

pub as_slice-requires-2 : goal.as_slice-requires-2
as_slice-requires-2 c = let w = c.args.self in ordered_fits c.args.levels.now w.nets c.args.depth w.wires.few c.by_level-order.result c.by_level-order.ensures

pub sizes_of-requires : goal.sizes_of-requires
sizes_of-requires c =
    let w = c.args.self in
    let front = ordered_front c.args.levels.now w.nets c.args.depth w.wires.few c.by_level-order.result c.by_level-order.ensures in
    rw (c.as_slice-2.ensures ∙ front)
    (order_short c.args.levels.now w.nets c.args.depth w.wires.few, order_nets c.args.levels.now w.nets c.args.depth w.wires.few)

along : (c : After-sizes_of) → (let w = c.args.self in
    Along w.counts.now w.places.now w.nets (order_of c.args.levels.now w.nets c.args.depth) c.by_level-order.result c.pcsets-sets.result c.sizes_of.result)
along c =
    let w = c.args.self in
    let front = ordered_front c.args.levels.now w.nets c.args.depth w.wires.few c.by_level-order.result c.by_level-order.ensures in
    record {
      ordering = c.by_level-order.ensures;
      made = c.pcsets-sets.ensures ∙ ap (sets_along w.counts.now w.places.now w.nets) (c.as_slice.ensures ∙ front);
      counted = c.sizes_of.ensures ∙ ap (sizes_of c.pcsets-sets.result) (c.as_slice-2.ensures ∙ front);
    }

pub returns-then-sizes_of-gt4096 : goal.returns-then-sizes_of-gt4096
returns-then-sizes_of-gt4096 c = sets_refused (along (goal.at.returns-then-sizes_of-gt4096 c).After-sizes_of) (omega arith)

pub returns : goal.returns
returns c = sets_passed (along (goal.at.returns c).After-sizes_of) (omega arith)
