-- `Wiring::pcsets` meets its contract. The loop's invariant: the sets are those along the gates so far. Assumes nothing.
use mathlib.Core.Path.{◌∙◌}
use native.Mathlib.Omega.{arith}
use Rattle.std.proofs.Common.{rules}
use Rattle.lists.proofs.Made.{made_listed}
use Rattle.card_wiring.specs.Inner.Wires.{source_set}
use Rattle.card_wiring.proofs.Sets.{along_none, along_more}
use Rattle.card_wiring.proofs.Wiring.pcsets.Goals as goal

pub loop-g-init : goal.loop-g-init
loop-g-init c = let w = c.args.self in made_listed _ _ (source_set w.counts.now w.nets) (λ i y q r. search rules) _ _ c.from_fn-sets.ensures.items ∙ along_none w.counts.now w.places.now w.nets

pub loop-g-preserved : goal.loop-g-preserved
loop-g-preserved c =
    let l = c.loop-g in
    let w = c.args.self in
    along_more w.counts.now w.places.now w.nets w.wires w.fits c.args.order.now c.requires l.g-index _ _ _ (omega arith) c.from-g.ensures l.invariant c.set_of.ensures
