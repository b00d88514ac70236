-- `sheet_text::files::card_end` meets its contract. The loop's invariant: the walk from here on ends where the card does. Assumes nothing.
use mathlib.Core.Path.{sym, ◌∙◌}
use native.Mathlib.Omega.{arith}
use Rattle.sheet_text.proofs.Walks.{end_first, end_none, end_here, end_on}
use Rattle.sheet_text.proofs.files.card_end.Goals as goal

pub loop-at-init : goal.loop-at-init
loop-at-init c = (omega arith, end_first _)

pub overflow_add-at : goal.overflow_add-at
overflow_add-at c = omega (arith, c.loop-at.invariant)

pub returns-then-is_end : goal.returns-then-is_end
returns-then-is_end c =
    let l = c.loop-at in (
      sym
          (end_here c.args.file.now l.at _ _ (omega arith)
          c.u16_at-kind.ensures.0 c.u16_at-len.ensures.0 (sym c.is_end.ensures ∙ c.if-is_end.true))
          ∙ l.invariant.1,
      omega arith,
    )

pub loop-at-preserved : goal.loop-at-preserved
loop-at-preserved c =
    let l = c.loop-at in (
      omega (arith, c.u16_at-len.ensures.1),
      sym
          (end_on c.args.file.now l.at _ _ (omega arith)
          c.u16_at-kind.ensures.0 c.u16_at-len.ensures.0 (sym c.is_end.ensures ∙ c.if-is_end.false))
          ∙ l.invariant.1,
    )

pub returns : goal.returns
returns c = let l = c.loop-at in (sym (end_none c.args.file.now l.at (omega arith)) ∙ l.invariant.1, omega arith)
