-- The gates of a card that is held stand at the front of their array. Assumes nothing.
use Rattle.card.proofs.Kept.{order_fits, gates_front}
use Rattle.card.proofs.Session.gate_list.Goals as goal

pub shared_ref_as_front-result : goal.shared_ref_as_front-result
shared_ref_as_front-result c = (order_fits c.args.self.now c.requires).0

pub returns : goal.returns
returns c = gates_front c.args.self.now c.requires
