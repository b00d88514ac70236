-- `host_bytes::keep_rest` meets its contract. Assumes nothing.
use Rattle.std.proofs.Common.{ap, ◌∙◌, ◌∷◌, [], set, length-set, arith}
use Rattle.lists.specs.Places.{area}
use Rattle.host_bytes.specs.Layout.{older_at, last_at, card_at}
use Rattle.host_bytes.specs.Kept.{kept_rest}
use Rattle.host_bytes.proofs.Areas.{first_put, zeros_placed}
use Rattle.host_bytes.proofs.keep_rest.Goals as goal

pub returns : goal.returns
unfolding kept_rest
returns c =
    let b = c.args.b.now in
    let first = ap (set b 0) c.from.ensures ∙ first_put b 2 (omega arith) in
    c.put_area.ensures
    ∙ ap (λ x. area x last_at card_at c.args.v.now)
    (zeros_placed _ c.fill.new.self older_at last_at (omega arith) (omega (arith, length-set b 0 c.from.result)) (c.fill.ensures.after (λ y e. e)) ∙ ap (λ x. area x older_at last_at (0 ∷ [])) first)
