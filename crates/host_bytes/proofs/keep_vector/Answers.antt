-- `host_bytes::keep_vector` meets its contract. Assumes nothing.
use Rattle.std.proofs.Common.{ap, ◌∙◌, set, arith}
use Rattle.std.specs.List.{copy_within}
use Rattle.lists.specs.Places.{area}
use Rattle.host_bytes.specs.Layout.{older_at, last_at, card_at}
use Rattle.host_bytes.specs.Inner.States.{byte_of}
use Rattle.host_bytes.specs.Kept.{mark_of, kept_vector}
use Rattle.host_bytes.proofs.Areas.{first_put, room_put}
use Rattle.host_bytes.proofs.States.{marked}
use Rattle.host_bytes.proofs.keep_vector.Goals as goal

pub returns : goal.returns
unfolding kept_vector
returns c =
    let a = c.args in
    let b = a.b.now in
    let byte = c.from-2.ensures ∙ ap byte_of c.from.ensures ∙ marked a.engine in
    let first = ap (set b 0) byte ∙ first_put b (mark_of a.engine) (omega arith) in
    c.put_area.ensures
    ∙ ap (λ x. area x last_at card_at a.v.now)
    (c.copy_within.ensures.after ∙ ap (λ x. copy_within x last_at card_at older_at) first ∙ room_put b (mark_of a.engine) c.requires)
