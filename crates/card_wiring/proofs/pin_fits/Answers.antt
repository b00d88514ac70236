-- A pin that names no net fits if it is open. Assumes nothing.
use mathlib.Core.Path.{sym, ap, ◌∙◌}
use mathlib.Core.Bool.{◌||◌}
use native.Mathlib.Omega.{arith}
use lib.Dec.{eqb}
use borrow.Author.Tests.{le-ltb}
use Rattle.rule.specs.Net.{open_pin}
use Rattle.rule.proofs.Nets.{open_is}
use Rattle.card_wiring.proofs.pin_fits.Goals as goal

pub returns-else-from-n : goal.returns-else-from-n
returns-else-from-n c =
    ap (eqb c.args.p) (sym open_is) ∙ sym (ap (λ b. b || eqb c.args.p open_pin) (le-ltb c.args.p c.args.n (omega (arith, c.from.ensures))))
