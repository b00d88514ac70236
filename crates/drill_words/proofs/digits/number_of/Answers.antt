-- The number that a word spells: that of the digits from here on, after those that spelled `value`. Assumes nothing.
use mathlib.Core.Path.{sym, ◌∙◌}
use native.Mathlib.Omega.{arith}
use Rattle.drill_words.specs.Digits.{number_spelled}
use Rattle.drill_words.proofs.Spelling.{number_start, spelled_stop, spelled_over, spelled_on, spelled_end}
use Rattle.drill_words.proofs.digits.number_of.Goals as goal

pub returns-then-is_empty : goal.returns-then-is_empty
unfolding number_spelled
returns-then-is_empty c = rw (sym c.is_empty.ensures ∙ c.if-is_empty.true)

pub loop-b-init : goal.loop-b-init
loop-b-init c = number_start _ (sym c.is_empty.ensures ∙ c.if-is_empty.false)

pub returns-in_err-digit : goal.returns-in_err-digit
returns-in_err-digit c =
    let l = c.loop-b in
    c.from_residual.ensures ∙ spelled_stop _ l.b-index (omega arith) l.value _ c.from.ensures c.in_err-digit.ensures.value ∙ l.invariant

pub returns-in_err-checked_mul : goal.returns-in_err-checked_mul
returns-in_err-checked_mul c =
    let l = c.loop-b in
    c.from_residual-in_err-checked_mul.ensures
    ∙ spelled_over _ l.b-index (omega arith) l.value _ c.from.ensures _ c.in_ok-digit.ensures.value (omega (arith, c.in_err-checked_mul.ensures))
    ∙ l.invariant

pub returns-in_err-value : goal.returns-in_err-value
returns-in_err-value c =
    let l = c.loop-b in
    c.from_residual-in_err-value.ensures
    ∙ spelled_over _ l.b-index (omega arith) l.value _ c.from.ensures _ c.in_ok-digit.ensures.value
    (omega (arith, c.in_err-value.ensures, c.in_ok-checked_mul.ensures.1, c.from-in-loop-b.ensures))
    ∙ l.invariant

pub loop-b-preserved : goal.loop-b-preserved
loop-b-preserved c =
    let l = c.loop-b in
    spelled_on _ l.b-index (omega arith) l.value _ c.from.ensures _ c.in_ok-digit.ensures.value _
    (omega (arith, c.in_ok-value.ensures.1, c.in_ok-checked_mul.ensures.1, c.from-in-loop-b.ensures))
    (omega (arith, c.in_ok-value.ensures.0))
    ∙ l.invariant

pub returns : goal.returns
returns c = let l = c.loop-b in spelled_end _ l.b-index l.value (omega arith) ∙ l.invariant
