-- What stands from place 8 g on, as many as net g has pins: `part_listed`. Assumes nothing.
use Prim.Native.Nat.{◌*◌}
use native.Mathlib.Omega.{arith}
use Rattle.card_wiring.proofs.Pins.{part_listed}
use Rattle.card_wiring.proofs.pins_of.Goals as goal

pub returns : goal.returns
returns c = part_listed c.args.places.now (c.args.g * 8) _ _ (omega (arith, c.from.ensures)) (omega (arith, c.requires.narrow, c.requires.g_bound, c.type_inv.places))
