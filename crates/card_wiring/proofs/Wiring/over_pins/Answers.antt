-- `Wiring::over_pins` meets its contract. The loop's invariant: `over` is one more than the highest of the pins so far. Assumes nothing.
use Prim.Native.Nat.{◌<◌}
use native.Mathlib.Omega.{arith}
use lib.ListN.{get_or}
use Rattle.rule.specs.Net.{at_pin}
use Rattle.rule.proofs.Nets.{at_pin_all}
use Rattle.card_wiring.proofs.Pins.{pin_entry}
use Rattle.card_wiring.proofs.Sweeps.{over_entry}
use Rattle.card_wiring.proofs.Wiring.over_pins.Goals as goal

pub at_pin-requires : goal.at_pin-requires
at_pin-requires c =
    let w = c.args.self in
    pin_entry w.counts.now w.places.now w.nets c.args.g w.wires w.fits c.pins-p-items.result.now c.pins-p-items.ensures c.loop-p.p-index (omega arith)

pub overflow_add-at_pin : goal.overflow_add-at_pin
overflow_add-at_pin c =
    let low : at_pin 0 (λ m. get_or c.args.old.now m 0) (get_or c.pins-p-items.result.now c.loop-p.p-index 0) < 1000 =
    at_pin_all (λ p x. x < 1000) 0 (λ m. get_or c.args.old.now m 0) (get_or c.pins-p-items.result.now c.loop-p.p-index 0) (omega arith) (c.requires.1 _) in
    omega (arith, c.at_pin.ensures)

pub loop-p-preserved : goal.loop-p-preserved
loop-p-preserved c =
    let more = over_entry (at_pin 0 (λ m. get_or c.args.old.now m 0)) c.pins-p-items.result.now c.loop-p.p-index (omega arith) in
    omega (arith, more, c.at_pin.ensures, c.max-over.ensures, c.loop-p.invariant)
