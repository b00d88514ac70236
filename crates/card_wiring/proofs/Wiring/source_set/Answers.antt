-- `Wiring::source_set` meets its contract: whether a net of the card has no pins, as a number. Assumes nothing.
use mathlib.Core.Path.{◌≡◌, sym, ap, ◌∙◌}
use mathlib.Core.Bool.{◌&&◌}
use lib.Dec.{eqb, ltb}
use lib.ListN.{get_or}
use borrow.Author.Tests.{lt-ltb, le-ltb}
use Rattle.word.specs.Word.{val}
use Rattle.card_wiring.proofs.Sets.{byte_val, source_made}
use Rattle.card_wiring.proofs.Wiring.source_set.Goals as goal
use Rattle.card_wiring.proofs.Wiring.source_set.Goals.{then-g-self, else-g-self}

pub returns : goal.returns
returns c =
    let w = c.args.self in
    let g = c.args.g in
    let none = eqb (get_or w.counts.now g 0) 0 in
    let both : c.if-g-self.from ≡ (ltb g w.nets && none) =
    elim c.if-g-self.branch [
      | then-g-self b ↦ b.from-is ∙ sym (ap (λ x. x && none) (lt-ltb g w.nets b.if-g-self.true))
      | else-g-self b ↦ b.from-is ∙ le-ltb g w.nets b.if-g-self.false ∙ sym (ap (λ x. x && none) (le-ltb g w.nets b.if-g-self.false))
    ] in
    source_made w.counts.now w.nets g c.from.result c.requires (c.from.ensures ∙ byte_val _ ∙ ap val both)
