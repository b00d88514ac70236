-- `history::flag_of` meets its contract: its arms are the flag's cases. Assumes nothing.
use mathlib.Core.Path.{◌≡◌, sym, ap, ◌∙◌}
use mathlib.Core.Bool.{beq}
use native.Mathlib.Omega.{arith}
use Rattle.word.specs.Word.{bit}
use Rattle.rule.specs.Flag.{changes}
use Rattle.rule.proofs.Flags.{none_is, one_is, many_is}
use Rattle.history.proofs.flag_of.Goals as goal

pub returns-in-0 : goal.returns-in-0
returns-in-0 c = let a = c.args in sym (none_is a.before (bit a.word) (sym c.changes_of.ensures ∙ c.in-0.is))

pub returns-in-1 : goal.returns-in-1
returns-in-1 c =
    let a = c.args in
    let e : changes a.before (bit a.word) ≡ 1 = sym c.changes_of.ensures ∙ c.in-1.is in
    sym (one_is a.before (bit a.word) (λ z. omega arith) e)

pub returns-then-before-has : goal.returns-then-before-has
returns-then-before-has c =
    let a = c.args in
    let e = c.changes_of.ensures in
    sym (many_is a.before (bit a.word) (λ z. omega arith) (λ z. omega arith) _ (ap (beq a.before) (sym c.has.ensures) ∙ c.if-before-has.true))

pub returns-else-before-has : goal.returns-else-before-has
returns-else-before-has c =
    let a = c.args in
    let e = c.changes_of.ensures in
    sym (many_is a.before (bit a.word) (λ z. omega arith) (λ z. omega arith) _ (ap (beq a.before) (sym c.has.ensures) ∙ c.if-before-has.false))
