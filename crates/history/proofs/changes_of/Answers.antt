-- `history::changes_of` meets its contract. The loop's invariant: `last` is the value one unit before t, and `count` the changes at the times
-- below t. Assumes nothing.
use mathlib.Core.Path.{◌≡◌, refl, sym, ◌∙◌}
use mathlib.Core.Bool.{not, beq}
use native.Mathlib.Omega.{arith}
use Rattle.word.specs.Word.{bit}
use Rattle.word.proofs.Words.{val_lt}
use Rattle.word.proofs.Sets.{count_start, count_le}
use Rattle.rule.specs.Flag.{changed_at}
use Rattle.rule.proofs.Flags.{changes_counted}
use Rattle.history.proofs.Changes.{one_later, changes_more}
use Rattle.history.proofs.changes_of.Goals as goal

pub loop-t-init : goal.loop-t-init
loop-t-init c = (refl, sym (count_start (changed_at c.args.before (bit c.args.word))))

pub overflow_add-count : goal.overflow_add-count
overflow_add-count c =
    let l = c.loop-t in
    let r = c.from-count.ensures in
    omega (arith, val_lt (not (beq c.has-value.result l.last)), count_le (changed_at c.args.before (bit c.args.word)) l.t)

pub loop-t-preserved : goal.loop-t-preserved
loop-t-preserved c =
    let l = c.loop-t in
    let e = c.has-value.ensures in (
      e ∙ sym (one_later c.args.before (bit c.args.word) l.t),
      changes_more c.args.before (bit c.args.word) l.t _ _ _ _ l.invariant.1 l.invariant.0 e c.from-count.ensures,
    )

pub returns : goal.returns
returns c =
    let e : c.loop-t.t ≡ 64 = omega arith in
    (rw e at c.loop-t.invariant.1) ∙ sym (changes_counted c.args.before (bit c.args.word))
