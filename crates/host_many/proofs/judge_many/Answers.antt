-- `host_many::judge_many` meets its contract: its tests are 12, 10, 11, 18 in this order. Assumes nothing.
use mathlib.Core.Path.{◌≡◌, sym, ◌∙◌}
use mathlib.Core.Bool.{true}
use Rattle.card.specs.Held.{HasCard}
use Rattle.card.proofs.Kept.{inputs_some}
use Rattle.host_many.proofs.Many.{many_12, many_10, many_11, many_18, many_0}
use Rattle.host_many.proofs.judge_many.Goals as goal
use Rattle.host_many.proofs.judge_many.Goals.{Else-not-s}

ready : (c : Else-not-s) → c.args.s.now.rested ≡ true
ready c = c.if-not-s.false

-- a rested session holds a card
card : (c : Else-not-s) → HasCard c.args.s.now
card c = let g = c.requires in g.card (g.rest ((c.if-not-s.false))).0

pub returns-then-not-s : goal.returns-then-not-s
returns-then-not-s c = let a = c.args in many_12 a.s.now a.vectors.now a.room c.if-not-s.true

pub nonzero_rem-vectors : goal.nonzero_rem-vectors
nonzero_rem-vectors c = (inputs_some _ (card (goal.at.nonzero_rem-vectors c).Else-not-s)).0

pub returns-then-vectors-n-ne0 : goal.returns-then-vectors-n-ne0
returns-then-vectors-n-ne0 c = let a = c.args in many_10 a.s.now a.vectors.now a.room (ready (goal.at.returns-then-vectors-n-ne0 c).Else-not-s) c.if-vectors-n-ne0.true

pub returns-then-not-bytes_fit : goal.returns-then-not-bytes_fit
returns-then-not-bytes_fit c =
    let a = c.args in
    many_11 a.s.now a.vectors.now a.room (ready (goal.at.returns-then-not-bytes_fit c).Else-not-s) c.if-vectors-n-ne0.false (sym c.bytes_fit.ensures ∙ c.if-not-bytes_fit.true)

pub nonzero_div-k : goal.nonzero_div-k
nonzero_div-k c = (inputs_some _ (card (goal.at.nonzero_div-k c).Else-not-s)).0

pub nonzero_div-room : goal.nonzero_div-room
nonzero_div-room c = (inputs_some _ (card (goal.at.nonzero_div-room c).Else-not-s)).1

pub returns-then-room-nets : goal.returns-then-room-nets
returns-then-room-nets c =
    let a = c.args in
    many_18 a.s.now a.vectors.now a.room (ready (goal.at.returns-then-room-nets c).Else-not-s) c.if-vectors-n-ne0.false (sym c.bytes_fit.ensures ∙ c.if-not-bytes_fit.false) (inputs_some _ (card (goal.at.returns-then-room-nets c).Else-not-s)).1 c.if-room-nets.true

pub returns : goal.returns
returns c =
    let a = c.args in
    many_0 a.s.now a.vectors.now a.room (ready (goal.at.returns c).Else-not-s) c.if-vectors-n-ne0.false (sym c.bytes_fit.ensures ∙ c.if-not-bytes_fit.false) (inputs_some _ (card (goal.at.returns c).Else-not-s)).1 c.if-room-nets.false
