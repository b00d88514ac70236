-- A gate's pins, laid at their places: the first j of them are, and each turn lays one more. Assumes nothing.
use mathlib.Core.Path.{refl}
use native.Mathlib.Omega.{arith}
use native.Mathlib.Numerals.{add-one}
use borrow.Author.Rules.{rules}
use Rattle.card_records.proofs.put_pins.Goals as goal

pub loop-j-init : goal.loop-j-init
loop-j-init c = refl

pub overflow_add-start : goal.overflow_add-start
overflow_add-start c = let inside = c.requires.2 (omega arith) in search rules

pub two_at-requires : goal.two_at-requires
two_at-requires c = let inside = c.requires.2 (omega arith) in omega arith

pub loop-j-preserved : goal.loop-j-preserved
loop-j-preserved c = rw (add-one, c.loop-j.invariant, c.two_at.ensures)
