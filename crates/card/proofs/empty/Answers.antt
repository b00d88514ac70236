-- `card::empty` meets its contract: every field is the empty session's. Assumes nothing.
use mathlib.Core.Path.{refl}
use Rattle.card.specs.Session.{none}
use Rattle.card.proofs.empty.Goals as goal

pub returns : goal.returns
unfolding none
returns c = refl
