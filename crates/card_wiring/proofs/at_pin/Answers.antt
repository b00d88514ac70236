-- `card_wiring::at_pin` meets its contract: an open pin has `loose`, and any other names a net, whose entry is read. Assumes nothing.
use mathlib.Core.Path.{◌≡◌, sym, ap, ◌∙◌}
use mathlib.Core.Logic.{⊎_elim}
use Prim.Native.Nat.{ℕ}
use native.Mathlib.Omega.{arith}
use lib.ListN.{get_or}
use Rattle.rule.specs.Net.{open_pin}
use Rattle.rule.proofs.Nets.{at_open, at_net, open_is}
use Rattle.card_wiring.proofs.at_pin.Goals as goal

pub returns-then-p-eq-OPEN : goal.returns-then-p-eq-OPEN
returns-then-p-eq-OPEN c = let e : c.args.p ≡ open_pin = c.if-p-eq-OPEN.true ∙ sym open_is in rw e (sym (at_open c.args.loose _))

pub bounds-xs-from : goal.bounds-xs-from
bounds-xs-from c =
    let e = c.from.ensures in
    ⊎_elim (λ l. omega arith) (λ q. absurd (c.if-p-eq-OPEN.false (q ∙ open_is))) c.requires

pub returns : goal.returns
returns c =
    ap (λ (m : ℕ). get_or c.args.xs.now m 0) c.from.ensures
    ∙ sym (at_net c.args.loose (λ m. get_or c.args.xs.now m 0) c.args.p (λ q. c.if-p-eq-OPEN.false (q ∙ open_is)))
