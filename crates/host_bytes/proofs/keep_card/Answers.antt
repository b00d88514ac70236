-- `host_bytes::keep_card` meets its contract. Assumes nothing.
use Rattle.std.proofs.Common.{◌≡◌, ◌++◌, ap, ◌∙◌, ◌∷◌, [], ◌%◌, ◌/◌, length, get_or, drop, arith}
use Rattle.lists.specs.Places.{area}
use Rattle.lists.proofs.Places.{length_area}
use Rattle.host_bytes.specs.Layout.{older_at, card_at, card_to}
use Rattle.host_bytes.specs.Kept.{kept_card}
use Rattle.host_bytes.proofs.Areas.{head_put, zeros_placed}
use Rattle.host_bytes.proofs.keep_card.Goals as goal

pub returns : goal.returns
unfolding kept_card
returns c =
    let b = c.args.b.now in
    let n = length c.args.card.now in
    let head : c.copy_from_slice.new.self ≡ 1 ∷ n % 256 ∷ n / 256 % 256 ∷ [] =
    c.copy_from_slice.ensures.after ∙ (λ i. c.from.ensures i ∷ get_or (c.to_le_bytes.ensures i) 0 0 ∷ get_or (c.to_le_bytes.ensures i) 1 0 ∷ []) in
    let headed = ap (λ x. x ++ drop older_at b) head ∙ head_put b n c.requires in
    let size : length (c.copy_from_slice.new.self ++ drop older_at b) ≡ length b = ap length headed ∙ length_area b 0 older_at _ in
    c.put_area.ensures
    ∙ ap (λ x. area x card_at card_to c.args.card.now)
    (zeros_placed _ c.fill.new.self older_at card_at (omega arith) (omega (arith, size)) (c.fill.ensures.after (λ y e. e)) ∙ ap (λ x. area x older_at card_at (0 ∷ [])) headed)
