-- Every net's pins fit, as the library goes through the nets: `all_from`. Assumes nothing.
use mathlib.Core.Path.{refl, ◌∙◌}
use Prim.Native.Nat.{ℕ}
use native.Mathlib.Omega.{arith}
use Rattle.std.proofs.Common.{rules, tests}
use Rattle.std.proofs.lemmas.Iterator.{YieldsList-from_range}
use Rattle.std.proofs.lemmas.Iterator.Search.{all_from_yields_List}
use Rattle.lists.specs.Entries.{every}
use Rattle.card_wiring.specs.Layout.{pins_at}
use Rattle.card_wiring.specs.Wired.{pin_fits}
use Rattle.card_wiring.proofs.Pins.{all_from}
use Rattle.card_wiring.proofs.all_fit.Goals as goal

pub returns : goal.returns
returns c =
    let fits = λ (g : ℕ). every (pin_fits c.args.n) (pins_at c.args.counts.now c.args.places.now g) in
    all_from_yields_List fits _ _ _ c.all.ensures.ran (YieldsList-from_range 0 c.args.n c.args.n refl (omega arith)) (λ x b q k. search (rules, tests))
    ∙ all_from fits 0 c.args.n
