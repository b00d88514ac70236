-- Every pin fits, as the library goes through a list: `every_is`. Assumes nothing.
use mathlib.Core.Path.{ap, ◌∙◌}
use Rattle.std.proofs.Common.{rules, tests}
use Rattle.std.proofs.lemmas.Iterator.{YieldsList-from_slice}
use Rattle.std.proofs.lemmas.Iterator.Search.{all_from_yields_List}
use Rattle.lists.specs.Entries.{every}
use Rattle.lists.proofs.Tests.{every_is}
use Rattle.card_wiring.specs.Wired.{pin_fits}
use Rattle.card_wiring.proofs.net_fits.Goals as goal

pub returns : goal.returns
returns c =
    all_from_yields_List (pin_fits c.args.n) _ _ _ c.all.ensures.ran (YieldsList-from_slice c.pins_of.result.now cc) (λ x b q k. search (rules, tests))
    ∙ every_is (pin_fits c.args.n) c.pins_of.result.now ∙ ap (every (pin_fits c.args.n)) c.pins_of.ensures
