-- `Wiring::sweep` meets its contract. The loop's invariant: one gate more is followed back from the first g nets, and the rest of the array is 0. Assumes nothing.
use mathlib.Core.Path.{◌≡◌, ◌∙◌}
use native.Mathlib.Omega.{arith}
use lib.ListN.{get_or}
use Rattle.lists.proofs.Listed.{listed_same, upto_none, upto_more}
use Rattle.rule.specs.Net.{at_pin}
use Rattle.card_wiring.proofs.Sweeps.{over_front, all_swept}
use Rattle.card_wiring.proofs.Wiring.sweep.Goals as goal

pub loop-g-init : goal.loop-g-init
loop-g-init c = listed_same 0 256 ∙ upto_none _ (λ h. 0) 256

pub loop-g-preserved : goal.loop-g-preserved
loop-g-preserved c =
    let l = c.loop-g in
    rw (c.over_pins.ensures, l.invariant) (upto_more _ (λ h. 0) 256 l.g (omega (arith, c.args.self.wires.few)))

pub returns : goal.returns
returns c k e =
    let w = c.args.self in
    let end : c.loop-g.g ≡ w.nets = omega arith in
    rw end at c.loop-g.invariant
    ∙ over_front (λ h. 1) w.counts.now w.places.now w.nets w.wires (at_pin 0 (λ m. get_or c.args.old.now m 0))
    ∙ all_swept (λ h. 1) w.counts.now w.places.now w.nets w.wires k c.args.old.now w.fits e
