-- `card_wiring::sizes_of` meets its contract. The loop's invariant: `sum` is the sizes of the sets so far, added. Assumes nothing.
use mathlib.Core.Path.{◌≡◌, ap, ◌∙◌}
use native.Mathlib.Omega.{arith}
use lib.ListN.{get_or}
use Rattle.word.specs.Word.{bit}
use Rattle.word.specs.Times.{count}
use Rattle.word.proofs.Sets.{count_le}
use Rattle.card_wiring.proofs.Sets.{sizes_none, sizes_more}
use Rattle.card_wiring.proofs.sizes_of.Goals as goal

pub loop-g-init : goal.loop-g-init
loop-g-init c = (omega arith, sizes_none c.args.sets.now)

pub loop-g-preserved : goal.loop-g-preserved
loop-g-preserved c =
    let i = c.loop-g.g-index in
    let g = get_or c.args.order.now i 0 in
    let q : c.size.result ≡ count (bit (get_or c.args.sets.now g 0)) 64 = c.size.ensures ∙ ap (λ m. count (bit (get_or c.args.sets.now m 0)) 64) c.from.ensures in
    let r = count_le (bit (get_or c.args.sets.now g 0)) 64 in
    (omega arith, omega (arith, sizes_more c.args.sets.now c.args.order.now i (omega arith)))
