-- `step_orders::entries_fit` meets its contract. The loop's invariant: the first i entries are steps' numbers, each once, and are marked.
-- Assumes nothing.
use native.Mathlib.Omega.{arith}
use Rattle.step_orders.proofs.Seen.{seen_none, seen_more, seen_past, seen_twice, seen_all}
use Rattle.step_orders.proofs.entries_fit.Goals as goal

pub loop-entry-init : goal.loop-entry-init
loop-entry-init c = (omega arith, seen_none c.args.total c.args.order.now)

pub returns-then-total-e : goal.returns-then-total-e
returns-then-total-e c =
    let l = c.loop-entry in
    seen_past c.args.total c.args.order.now l.entry-index c.from-e.result (omega arith) c.from-e.ensures (omega arith)

pub returns-then-seen-e : goal.returns-then-seen-e
returns-then-seen-e c =
    let l = c.loop-entry in
    seen_twice c.args.total c.args.order.now l.seen l.entry-index c.from-e.result l.invariant.1 (omega arith) c.from-e.ensures (omega arith) c.if-seen-e.true

pub loop-entry-preserved : goal.loop-entry-preserved
loop-entry-preserved c =
    let l = c.loop-entry in
    (omega arith, seen_more c.args.total c.args.order.now l.seen l.entry-index c.from-e.result l.invariant.1 (omega arith) (omega arith) c.from-e.ensures (omega arith) c.if-seen-e.false)

pub returns : goal.returns
returns c = seen_all c.args.total c.args.order.now c.loop-entry.seen c.loop-entry.entry-index c.loop-entry.invariant.1 (omega arith)
