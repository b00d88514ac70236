-- The arrays of a card that is held are a wiring. Assumes nothing.
use Rattle.card.proofs.Kept.{card_wires, card_all_fit}
use Rattle.card.proofs.Session.wiring.Goals as goal

pub invariant_of-result : goal.invariant_of-result
invariant_of-result c = let s = c.args.self.now in record { wires = card_wires s c.requires; fits = card_all_fit s c.requires }
