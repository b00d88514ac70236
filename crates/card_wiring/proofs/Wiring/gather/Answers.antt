-- `card_wiring::Wiring::gather` meets its contract. The loop's invariant: at every time the value is what the first j pins come to. Assumes nothing.
use native.Mathlib.Omega.{arith}
use Rattle.card_wiring.proofs.Pins.{fitting, pin_fitting, first_fitting}
use Rattle.card_wiring.proofs.Gathered.{gather_first, gather_more, gather_all}
use Rattle.card_wiring.proofs.Wiring.gather.Goals as goal

pub read-known-requires : goal.read-known-requires
read-known-requires g c =
    let s = c.args.self in
    c.requires.readable _ (first_fitting s.counts.now s.places.now s.nets c.args.g s.wires (fitting s.counts.now s.places.now s.nets s.wires s.fits) c.requires.g_bound.1)

pub loop-j-init : goal.loop-j-init
loop-j-init g c =
    let a = c.args in
    let e = c.from-count.ensures in (
      omega (arith, c.requires.g_bound.1),
      omega (arith, a.self.wires.narrow a.g),
      λ f reads t. gather_first (λ p. f p t) a.self.places.now a.g a.ty _ (reads _ _ c.read-known.ensures t),
    )

pub read-requires : goal.read-requires
read-requires g c =
    let s = c.args.self in
    let e = c.from-count.ensures in
    c.requires.readable _ (pin_fitting s.counts.now s.places.now s.nets c.args.g c.loop-j.j s.wires (fitting s.counts.now s.places.now s.nets s.wires s.fits) (omega arith))

pub with_pin-known-requires : goal.with_pin-known-requires
with_pin-known-requires g c = c.requires.g_bound.2

pub loop-j-preserved : goal.loop-j-preserved
loop-j-preserved g c =
    let a = c.args in
    let l = c.loop-j in (
      omega arith,
      l.invariant.1,
      λ f reads t. gather_more (λ p. f p t) a.self.places.now a.g a.ty l.j _ _ _ (l.invariant.2 f reads t) (reads _ _ c.read.ensures t) (c.with_pin-known.ensures t),
    )

pub returns-then-count-j : goal.returns-then-count-j
returns-then-count-j g c f reads t =
    let a = c.args in
    let l = c.loop-j in
    let e = c.from-count.ensures in
    gather_all (λ p. f p t) a.self.places.now a.g a.ty a.self.counts.now l.j _ (omega (arith, l.invariant.0)) (l.invariant.2 f reads t)

pub returns : goal.returns
returns g c f reads t =
    let a = c.args in
    let l = c.loop-j in
    let e = c.from-count.ensures in
    gather_all (λ p. f p t) a.self.places.now a.g a.ty a.self.counts.now l.j _ (omega (arith, l.invariant.0, l.invariant.1)) (l.invariant.2 f reads t)
