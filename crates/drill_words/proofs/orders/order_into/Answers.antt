-- The entries of an order: those of the parts so far stand in the room. Assumes nothing.
use mathlib.Core.Path.{refl, sym, ap, ap₂, ◌∙◌}
use mathlib.Core.List.{[], ◌∷◌}
use Prim.Native.Nat.{◌<◌}
use native.Mathlib.Omega.{arith}
use lib.Dec.{eqb}
use lib.ListN.{length, get_or, length-append}
use borrow.Author.Tests.{tests}
use Rattle.std.proofs.Common.{rules}
use Rattle.std.proofs.lemmas.Iterator.Consumers.{YieldsList-at, YieldsList-turn, YieldsList-end}
use Rattle.std.proofs.lemmas.Iterator.Splits.{YieldsList-from_slice_split}
use Rattle.drill_words.specs.Parts.{parts}
use Rattle.drill_words.proofs.Parted.{parts_split, parts_few}
use Rattle.drill_words.proofs.Ordering.{dash_none, others_all, others_more, others_none}
use Rattle.drill_words.proofs.orders.order_into.Goals as goal

pub returns-then-is_dash : goal.returns-then-is_dash
returns-then-is_dash c = dash_none _ _ (sym c.is_dash.ensures ∙ c.if-is_dash.true)

pub loop-part-init : goal.loop-part-init
loop-part-init c = (refl, others_all _ _ (sym c.is_dash.ensures ∙ c.if-is_dash.false))

pub loop-part-preserved : goal.loop-part-preserved
loop-part-preserved c =
    let w = c.args.word.now in
    let split = c.split-part-items.ensures in
    let turn = YieldsList-turn (YieldsList-at c.into_iter-part-iterator.ensures.into_iter_gives (YieldsList-from_slice_split _ (λ b. eqb b 44) w split.rest split.done split.closure (λ x b q h. search (rules, tests))))
    c.loop-part.yielded _ c.loop-part.yielded_by _ _ c.in-Some.part c.in-Some.is c.next.ensures.steps in
    let ps = parts_split 44 w in
    let l = c.loop-part in
    let here : l.n < length (parts 44 w) = omega (arith, turn.0, ap length ps) in (
      omega (arith, length-append l.yielded (c.in-Some.part ∷ [])),
      others_more w _ _ l.n _ c.in-Some.part.now here (turn.1 ∙ ap₂ (λ xs k. get_or xs k c.in-Some.part.now) ps (sym l.invariant.0)) c.entry_of.ensures
          (omega (arith, parts_few 44 w, l.invariant.1.size)) l.invariant.1,
    )

pub returns : goal.returns
returns c =
    let w = c.args.word.now in
    let split = c.split-part-items.ensures in
    let end = YieldsList-end (YieldsList-at c.into_iter-part-iterator.ensures.into_iter_gives (YieldsList-from_slice_split _ (λ b. eqb b 44) w split.rest split.done split.closure (λ x b q h. search (rules, tests))))
    c.loop-part.yielded _ c.loop-part.yielded_by _ _ c.in-None.is c.next.ensures.steps in
    others_none _ _ _ _ (omega (arith, end.1, ap length (parts_split 44 w))) c.loop-part.invariant.1
