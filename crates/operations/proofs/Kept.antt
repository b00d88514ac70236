-- Each operation keeps the rule of sessions. Assumes nothing.
use mathlib.Core.List.{List}
use Prim.Native.Nat.{ℕ}
use Rattle.card_records.specs.Written.{Bytes}
use Rattle.card.specs.declared.Session.{Session}
use Rattle.session.specs.Good.{Good}
use Rattle.session.proofs.Kept.{load_good, rest_good}
use Rattle.operations.specs.declared.Move.{Move}
use Rattle.operations.specs.declared.Move.TheVariants.{Load, Rest, Vector}
use Rattle.operations.specs.Operated.{operated}
use Rattle.operations.proofs.Engines.{by_good}

pub operated_good : (how : Move) (s : Session) → Good s → (given : List ℕ) → Bytes given → Good (operated how s given).session
operated_good Load s g given bytes = load_good s given g bytes
operated_good Rest s g given bytes = rest_good s g given
operated_good (Vector engine) s g given bytes = by_good engine s g given
