-- `host_bytes::is_clear` meets its contract. Assumes nothing.
use Rattle.std.proofs.Common.{◌∙◌, nat_eq, take, rules}
use Rattle.std.proofs.lemmas.Iterator.{YieldsList-from_slice}
use Rattle.std.proofs.lemmas.Iterator.Adapters.{YieldsList-from_skip}
use Rattle.std.proofs.lemmas.Iterator.Search.{all_from_yields_List}
use Rattle.host_bytes.proofs.Areas.{clear_all}
use Rattle.host_bytes.proofs.is_clear.Goals as goal

pub returns : goal.returns
returns c =
    let a = c.args in
    all_from_yields_List (λ x. nat_eq x 0) _ _ _ c.all.ensures.ran (YieldsList-from_skip a.from (YieldsList-from_slice (take a.to a.b.now) cc) cc) (λ x b q k. search rules)
    ∙ clear_all a.b.now a.from a.to c.requires
