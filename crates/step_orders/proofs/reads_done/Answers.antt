-- `step_orders::reads_done` meets its contract: `all` goes over the gate's pins. Assumes nothing.
use Rattle.std.proofs.Common.{rules, ◌≡◌, true, ℕ, ◌<◌, List, ◌⊎◌, inl, inr, ⊎_elim, sym, ◌∙◌, arith, subst}
use Rattle.std.proofs.lemmas.Iterator.{YieldsList-from_slice}
use Rattle.std.proofs.lemmas.Iterator.Adapters.{serves_from_places}
use Rattle.std.proofs.lemmas.Iterator.Search.{all_from_yields_List}
use borrow.Author.Tests.{tests}
use Rattle.lists.specs.Entries.{◌∈◌}
use Rattle.lists.proofs.Order.{at_in}
use Rattle.rule.specs.Net.{open_pin}
use Rattle.card_wiring.specs.Layout.{pins_at}
use Rattle.card_wiring.specs.Inner.Wires.{Wires, all_fit}
use Rattle.card_wiring.proofs.Pins.{fitting}
use Rattle.step_orders.proofs.Marking.{pin_done, pins_done}
use Rattle.step_orders.proofs.reads_done.Goals as goal

-- a pin names a place of the arrays or is open
readable : (counts places : List ℕ) (n g p : ℕ) → Wires counts places n → all_fit counts places n ≡ true → p ∈ pins_at counts places g → (p < 256) ⊎ (p ≡ open_pin)
readable counts places n g p w e m = let few = w.few in ⊎_elim (λ h. inl (omega arith)) inr (fitting counts places n w e g p m)

pub all-requires-clause-callable : goal.all-requires-clause-callable
all-requires-clause-callable c =
    let a = c.args in
    let w = a.circuit.wiring in
    let late = c.requires.1 in
    let ps = pins_at w.counts.now w.places.now a.g in
    serves_from_places (YieldsList-from_slice ps (cc)) (λ x q k. search rules)
    (λ x k l e. let fits = readable w.counts.now w.places.now w.nets a.g x.now w.wires w.fits (subst (λ (y : ℕ). y ∈ ps) (sym e) (at_in ps k x.now l)) in search rules)

pub returns : goal.returns
returns c =
    let a = c.args in
    let w = a.circuit.wiring in
    let ps = pins_at w.counts.now w.places.now a.g in
    all_from_yields_List (pin_done a.done.now a.circuit.sets.now a.t) _ _ c.all.result c.all.ensures.ran (YieldsList-from_slice ps (cc)) (λ x b q k. search (rules, tests))
    ∙ pins_done a.done.now w.counts.now w.places.now a.circuit.sets.now a.g a.t
