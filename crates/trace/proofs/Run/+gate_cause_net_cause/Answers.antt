-- `trace::Run::net_cause` and `trace::Run::gate_cause` meet their contracts, together. Assumes nothing.
use mathlib.Core.Path.{◌≡◌, sym, ap, ◌∙◌, subst}
use mathlib.Core.Bool.{true}
use mathlib.Core.List.{List}
use Prim.Native.Nat.{ℕ, ◌+◌, ◌-◌, ◌<◌}
use native.Mathlib.Omega.{arith}
use lib.ListN.{set, length-set}
use lib.Seq.{sets}
use Rattle.rule.proofs.Nets.{open_is}
use Rattle.rule.specs.Cause.{first_pin, causes}
use Rattle.trace.specs.Inner.Caused.{moved_at}
use Rattle.trace.proofs.Ways.{wrote_one, wrote_more}
use Rattle.trace.proofs.Run.+gate_cause_net_cause.Goals as goal

-- a gate that changed after time 0 has a pin that changed one unit earlier
pub gate_cause-net_cause-requires : goal.gate_cause-net_cause-requires
gate_cause-net_cause-requires t c =
    let a = c.args in
    let s = a.self.now in
    let h = c.requires in
    let k = s.caused.cause a.g a.t h.0 h.1 h.2 h.3 in
    let e = c.from.ensures ∙ c.in-Some.ensures in (
      omega (arith, c.decreases, h.1),
      (
        subst (λ p. p < 256) (sym e) k.0,
        omega (arith, h.2),
        subst (λ p. moved_at s.before.now s.words.now p (a.t - 1) ≡ true) (sym e) k.1,
        omega (arith, h.1, h.4),
      ),
    )

pub gate_cause-returns-in-Some : goal.gate_cause-returns-in-Some
gate_cause-returns-in-Some t c d q =
    let a = c.args in
    let s = a.self.now in
    let e = c.from.ensures ∙ c.in-Some.ensures in
    c.net_cause.ensures d q ∙ ap (λ p. sets a.room.now a.at (causes d (moved_at s.before.now s.words.now) p (a.t - 1))) e

pub gate_cause-returns-in_default : goal.gate_cause-returns-in_default
gate_cause-returns-in_default t c d q =
    let a = c.args in
    let h = c.requires in
    let k = a.self.now.caused.cause a.g a.t h.0 h.1 h.2 h.3 in
    let none = sym c.in_default.ensures ∙ open_is in
    absurd (omega (arith, k.0, none))

pub net_cause-gate_cause-requires : goal.net_cause-gate_cause-requires
net_cause-gate_cause-requires t c =
    let h = c.requires in (
      omega (arith, c.decreases),
      (h.0, c.if-t-gt0.true, h.1, h.2, simp length-set (omega (arith, h.3))),
    )

pub net_cause-returns-then-t-gt0 : goal.net_cause-returns-then-t-gt0
net_cause-returns-then-t-gt0 t c d q =
    let a = c.args in
    let moved = moved_at a.self.now.before.now a.self.now.words.now in
    c.gate_cause.ensures d q
    ∙ ap (λ (ps : ℕ → List ℕ). sets (set a.room.now a.at a.n) (a.at + 1) (causes d moved (first_pin (λ p. moved p (a.t - 1)) (ps a.n)) (a.t - 1))) q
    ∙ wrote_more d moved a.room.now a.at a.n a.t c.if-t-gt0.true

pub net_cause-returns-else-t-gt0 : goal.net_cause-returns-else-t-gt0
net_cause-returns-else-t-gt0 t c d q =
    let a = c.args in wrote_one d (moved_at a.self.now.before.now a.self.now.words.now) a.room.now a.at a.n a.t c.if-t-gt0.false
