-- Whether a type may have so many pins: `type_fits`, at what the arm says of the type. Assumes nothing.
use native.Mathlib.Omega.{arith}
use borrow.Author.Tests.{lt-ltb, le-ltb}
use Rattle.card_records.specs.Bytes.{type_fits}
use Rattle.card_records.proofs.type_fits.Goals as goal

pub returns-in-0 : goal.returns-in-0
unfolding type_fits
returns-in-0 c = rw (lt-ltb c.args.ty 2 (omega arith))

pub returns-in-2-to-7 : goal.returns-in-2-to-7
unfolding type_fits
returns-in-2-to-7 c = rw (le-ltb c.args.ty 2 (omega arith), lt-ltb c.args.ty 8 (omega arith))

pub returns-in_default : goal.returns-in_default
unfolding type_fits
returns-in_default c = rw (le-ltb c.args.ty 2 (omega arith), le-ltb c.args.ty 8 (omega arith))
