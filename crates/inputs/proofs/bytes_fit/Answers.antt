-- `inputs::bytes_fit` meets its contract: `all` answers `every`, test by test. Assumes nothing.
use Rattle.std.proofs.Common.{◌∙◌, rules, tests}
use Rattle.std.proofs.lemmas.Iterator.{YieldsList-from_slice}
use Rattle.std.proofs.lemmas.Iterator.Search.{all_from_yields_List}
use Rattle.lists.proofs.Tests.{every_is}
use Rattle.inputs.specs.Inputs.{byte_fits}
use Rattle.inputs.proofs.bytes_fit.Goals as goal

pub returns : goal.returns
returns c =
    all_from_yields_List byte_fits _ _ c.all.result c.all.ensures.ran (YieldsList-from_slice c.args.v.now cc) (λ x b q k. search (rules, tests))
    ∙ every_is byte_fits c.args.v.now
