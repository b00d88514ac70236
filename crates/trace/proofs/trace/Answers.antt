-- `trace::trace` meets its contract: its tests are the refusals in their order, and the walk back is made where every change has a cause.
-- Assumes nothing.
use mathlib.Core.Path.{◌≡◌, sym, ◌∙◌}
use mathlib.Core.Bool.{true, false}
use Prim.Native.Nat.{◌<◌}
use native.Mathlib.Omega.{arith}
use Rattle.card_wiring.specs.Layout.{pins_at}
use Rattle.card.specs.Session.{card_of}
use Rattle.card.proofs.Kept.{few, card_pins}
use Rattle.trace.specs.Inner.Caused.{moved_at}
use Rattle.history.proofs.Ran.{holds}
use Rattle.trace.proofs.Moved.{session_caused}
use Rattle.trace.proofs.Traces.{gives_12, gives_13, gives_14, gives_18, changed_then_lem, late_then, traced}
use Rattle.trace.proofs.trace.Goals as goal
use Rattle.trace.proofs.trace.Goals.{Else-not-moved, Else-t-gt63}

-- there the session is rested, and the net is a place of the arrays
ready : (c : Else-t-gt63) → c.args.s.now.rested ≡ true
ready c = c.if-not-s.false

placed : (c : Else-t-gt63) → c.args.n < 256
placed c = omega (arith, few c.args.s.now (holds c.args.s.now c.requires ((let it : c.args.s.now.rested ≡ true = c.if-not-s.false in it))))

changed : (c : Else-not-moved) → let a = c.args in moved_at a.s.now.before a.s.now.words a.n a.t ≡ true
changed c = sym c.moved.ensures ∙ c.if-not-moved.false

pub returns-then-not-s : goal.returns-then-not-s
returns-then-not-s c = let a = c.args in sym (gives_12 a.s.now a.n a.t a.room.now (c.if-not-s.true))

pub returns-then-s-n : goal.returns-then-s-n
returns-then-s-n c = let a = c.args in sym (gives_13 a.s.now a.n a.t a.room.now (c.if-not-s.false) c.if-s-n.true)

pub returns-then-t-gt63 : goal.returns-then-t-gt63
returns-then-t-gt63 c =
    let a = c.args in
    sym (gives_14 a.s.now a.n a.t a.room.now (c.if-not-s.false) (omega arith) (late_then a.s.now a.n a.t (omega arith)))

pub moved-requires : goal.moved-requires
moved-requires c = (placed (goal.at.moved-requires c).Else-t-gt63, omega arith)

pub returns-then-not-moved : goal.returns-then-not-moved
returns-then-not-moved c =
    let a = c.args in
    sym (gives_14 a.s.now a.n a.t a.room.now (ready (goal.at.returns-then-not-moved c).Else-t-gt63) (omega arith) (changed_then_lem a.s.now a.n a.t (omega arith) false (sym c.moved.ensures ∙ c.if-not-moved.true)))

pub returns-then-room-length : goal.returns-then-room-length
returns-then-room-length c =
    let a = c.args in
    sym (gives_18 a.s.now a.n a.t a.room.now (ready (goal.at.returns-then-room-length c).Else-t-gt63) (omega arith) (changed_then_lem a.s.now a.n a.t (omega arith) true (changed (goal.at.returns-then-room-length c).Else-not-moved)) (omega arith))

pub invariant_of-run : goal.invariant_of-run
invariant_of-run c =
    let s = c.args.s.now in
    record { caused = rw (c.wiring.ensures.0, c.wiring.ensures.1) (session_caused s (holds s c.requires (ready (goal.at.invariant_of-run c).Else-t-gt63)) (c.requires.rest (ready (goal.at.invariant_of-run c).Else-t-gt63)).1) }

pub net_cause-requires : goal.net_cause-requires
net_cause-requires c =
    (placed (goal.at.net_cause-requires c).Else-t-gt63, omega (arith, c.if-t-gt63.false), changed (goal.at.net_cause-requires c).Else-not-moved, omega (arith, c.if-room-length.false))

pub returns : goal.returns
returns c =
    let a = c.args in
    traced a.s.now a.n a.t a.room.now (ready (goal.at.returns c).Else-t-gt63) (omega (arith, c.if-s-n.false)) (changed_then_lem a.s.now a.n a.t (omega (arith, c.if-t-gt63.false)) true (changed (goal.at.returns c).Else-not-moved))
    (omega (arith, c.if-room-length.false)) _ (c.net_cause.ensures (card_of a.s.now) ((λ i. pins_at (c.wiring.ensures.0 i) (c.wiring.ensures.1 i)) ∙ card_pins a.s.now (holds a.s.now c.requires (ready (goal.at.returns c).Else-t-gt63))))
