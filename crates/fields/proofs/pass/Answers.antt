-- `fields::pass` meets its contract. The loop's invariant: the words are those along the first i gates, from words that end in the before values.
-- Assumes nothing.
use mathlib.Core.Path.{◌≡◌, sym, ap, ◌∙◌, subst}
use mathlib.Core.List.{map}
use Prim.Native.Nat.{ℕ}
use native.Mathlib.Omega.{arith}
use lib.ListN.{length, get_or}
use Rattle.card_wiring.specs.Layout.{pins_at}
use Rattle.card_wiring.specs.Inner.Wires.{Gates}
use Rattle.inputs.specs.Inner.Starts.{tops_of}
use Rattle.lists.specs.Listed.{listed}
use Rattle.lists.proofs.Listed.{listed_self}
use Rattle.card_wiring.proofs.Pins.{fitting}
use Rattle.fields.specs.Inner.Fields.{field_of, pin_word, passed}
use Rattle.fields.proofs.Fields.{passed_none, passed_more, own_top}
use Rattle.fields.proofs.pass.Goals as goal
use Rattle.fields.proofs.pass.Goals.{After-from-g}

-- the gate that is read has what a gate needs
gated : (c : After-from-g) → Gates c.args.types.now c.args.wiring.counts.now c.from-g.result
gated c =
    let a = c.args in
    subst (Gates a.types.now a.wiring.counts.now) (sym c.from-g.ensures) (c.requires.gates c.loop-gate.gate-index c.loop-gate-test.true)

pub loop-gate-init : goal.loop-gate-init
loop-gate-init c = passed_none (tops_of c.args.words.now) c.args.types.now c.args.wiring.counts.now c.args.wiring.places.now c.args.words.now _ c.requires.words_len

pub field_of-requires : goal.field_of-requires
field_of-requires c =
    gated (goal.at.field_of-requires c).After-from-g

pub offset_bounds-words-g : goal.offset_bounds-words-g
offset_bounds-words-g c = omega (arith, (gated (goal.at.offset_bounds-words-g c).After-from-g).net)

pub bounds-words-g : goal.bounds-words-g
bounds-words-g c = (gated (goal.at.bounds-words-g c).After-from-g).net

pub loop-gate-preserved : goal.loop-gate-preserved
loop-gate-preserved c =
    let a = c.args in
    let l = c.loop-gate in
    let w = a.wiring in
    let t = c.loop-gate-test.true in
    let f : ℕ → ℕ = λ k. get_or a.order.now k 0 in
    let g = c.from-g.result in
    let e = c.from-g.ensures in
    let own = own_top (tops_of a.words.now) a.types.now a.wiring.counts.now a.wiring.places.now a.words.now f l.gate-index _ _ (gated (goal.at.loop-gate-preserved c).After-from-g).net
    (λ j b q. c.requires.by_index j l.gate-index b t (q ∙ e)) l.invariant in
    passed_more (tops_of a.words.now) a.types.now a.wiring.counts.now a.wiring.places.now a.words.now a.wiring.nets w.wires.few (fitting w.counts.now w.places.now w.nets w.wires w.fits) f l.gate-index (λ j h. (c.requires.gates j (omega arith)).net) _ _ _ e l.invariant
    (c.field_of.ensures ∙ ap (λ low. field_of low (get_or a.types.now g 0) (map (pin_word l.words) (pins_at a.wiring.counts.now a.wiring.places.now g))) own)

pub returns : goal.returns
returns c =
    let a = c.args in
    let e : c.loop-gate.gate-index ≡ length a.order.now = omega arith in
    c.loop-gate.invariant
    ∙ ap (passed (tops_of a.words.now) a.types.now a.wiring.counts.now a.wiring.places.now a.words.now)
    (ap (listed (λ k. get_or a.order.now k 0)) e ∙ sym (listed_self a.order.now 0))
