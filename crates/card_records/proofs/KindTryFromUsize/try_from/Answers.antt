-- A number names its kind: `kind_named`, at the number that the arm names. Assumes nothing.
use borrow.Author.Tests.{ne_eqb}
use Rattle.card_records.specs.Inner.Named.{kind_named}
use Rattle.card_records.proofs.KindTryFromUsize.try_from.Goals as goal

pub returns-in-1 : goal.returns-in-1
unfolding kind_named
returns-in-1 c = rw c.in-1.is

pub returns-in-2 : goal.returns-in-2
unfolding kind_named
returns-in-2 c = rw c.in-2.is

pub returns-in-3 : goal.returns-in-3
unfolding kind_named
returns-in-3 c = rw c.in-3.is

pub returns-in-4 : goal.returns-in-4
unfolding kind_named
returns-in-4 c = rw c.in-4.is

pub returns-in_default : goal.returns-in_default
unfolding kind_named
returns-in_default c =
    let others = c.in_default.in_default-own.rest in
    rw (ne_eqb _ _ others.0.0.0.1, ne_eqb _ _ others.0.0.1, ne_eqb _ _ others.0.1, ne_eqb _ _ others.1)
