-- Whether a length fits a kind: `kind_fits`, at the kind that the arm names and what the arm says of the length. Assumes nothing.
use mathlib.Core.Logic.{inl, inr}
use native.Mathlib.Omega.{arith}
use borrow.Author.Tests.{le-leb, lt-leb}
use Rattle.card_records.specs.Bytes.{kind_fits}
use Rattle.card_records.proofs.Kind.fits.Goals as goal

pub returns-in-Input : goal.returns-in-Input
unfolding kind_fits
returns-in-Input c = elim c.in-Input.is [ inl e ↦ rw e | inr e ↦ rw e ]

pub returns-in-Constant : goal.returns-in-Constant
unfolding kind_fits
returns-in-Constant c = rw c.in-Constant.is

pub returns-in-3-to-17 : goal.returns-in-3-to-17
unfolding kind_fits
returns-in-3-to-17 c = rw (c.in-Gate.is, le-leb 3 c.args.len (omega arith), le-leb c.args.len 17 (omega arith))

pub returns-in_default : goal.returns-in_default
unfolding kind_fits
returns-in_default c = rw (c.in-Gate.is, lt-leb 3 c.args.len (omega arith))

pub returns-in_default-2 : goal.returns-in_default-2
unfolding kind_fits
returns-in_default-2 c = rw (c.in-Gate.is, le-leb 3 c.args.len (omega arith), lt-leb c.args.len 17 (omega arith))
