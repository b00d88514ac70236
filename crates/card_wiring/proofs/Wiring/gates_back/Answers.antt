-- `Wiring::gates_back` meets its contract. The loop's invariant: as many gates are followed back from every net as turns were made. A sweep that changes
-- nothing is the last. Assumes nothing.
use mathlib.Core.Path.{◌≡◌, sym, ◌∙◌}
use Prim.Native.Nat.{◌+◌}
use native.Mathlib.Omega.{arith}
use Rattle.std.proofs.Common.{rules}
use Rattle.card_wiring.proofs.Sweeps.{backs_le, backs_none, sweeps_end}
use Rattle.card_wiring.proofs.Wiring.gates_back.Goals as goal

pub loop-init : goal.loop-init
loop-init c = backs_none (λ g. 1) c.args.self.counts.now c.args.self.places.now

pub sweep-next-requires : goal.sweep-next-requires
sweep-next-requires c i =
    let w = c.args.self in
    rw c.loop.invariant (omega (arith, w.wires.few, backs_le w.counts.now w.places.now c.loop.counter i))

pub returns-then-eq : goal.returns-then-eq
returns-then-eq c =
    let l = c.loop in
    let w = c.args.self in
    let same : l.levels ≡ c.sweep-next.result = search rules in
    l.invariant
    ∙ sweeps_end (λ g. 1) w.counts.now w.places.now w.nets w.wires l.counter (w.nets + 1)
    (sym l.invariant ∙ same ∙ c.sweep-next.ensures l.counter l.invariant) (omega (arith, l.auto.counter-end))

pub returns-else-eq : goal.returns-else-eq
returns-else-eq c =
    let e : c.loop.counter ≡ c.args.self.nets = omega (arith, c.loop.auto.counter-end) in
    rw e at (c.sweep-next.ensures c.loop.counter c.loop.invariant)

pub loop-preserved : goal.loop-preserved
loop-preserved c = c.sweep-next.ensures c.loop.counter c.loop.invariant
