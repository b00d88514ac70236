-- `Wiring::set_of` meets its contract. The loop's invariant: `all` is the union of the sets of the pins so far. Assumes nothing.
use mathlib.Core.Path.{◌≡◌, ◌∙◌, subst}
use mathlib.Core.List.{map}
use Prim.Native.Nat.{ℕ}
use native.Mathlib.Omega.{arith}
use lib.ListN.{get_or, take}
use Rattle.std.proofs.lemmas.List.{take_all}
use Rattle.lists.specs.Entries.{some}
use Rattle.word.specs.Word.{bit}
use Rattle.word.proofs.Bits.{bit_none}
use Rattle.rule.specs.Net.{at_pin}
use Rattle.card_wiring.specs.Layout.{pins_at}
use Rattle.card_wiring.proofs.Pins.{pin_entry}
use Rattle.card_wiring.proofs.Sets.{raised_joined}
use Rattle.card_wiring.proofs.Wiring.set_of.Goals as goal

pub loop-p-init : goal.loop-p-init
loop-p-init c t = bit_none t

pub at_pin-requires : goal.at_pin-requires
at_pin-requires c =
    let w = c.args.self in
    pin_entry w.counts.now w.places.now w.nets c.args.g w.wires w.fits c.pins-p-items.result.now c.pins-p-items.ensures c.loop-p.p-index (omega arith)

pub returns : goal.returns
returns c =
    let ps = c.pins-p-items.result.now in
    let w = c.args.self in
    let all : take c.loop-p.p-index ps ≡ pins_at w.counts.now w.places.now c.args.g = take_all c.loop-p.p-index ps (omega arith) ∙ c.pins-p-items.ensures in
    raised_joined c.args.g c.loop-p.all.word c.raise.result.word _ (omega (arith, c.raise.type_inv))
    (subst (λ xs. (t : ℕ) → bit c.loop-p.all.word t ≡ some (λ k. bit k t) (map (at_pin 1 (λ m. get_or c.args.sets.now m 0)) xs)) all c.loop-p.invariant) c.raise.ensures
