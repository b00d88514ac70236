-- `card::ask_net` meets its contract: the tests are the refusals in their order; the levels of the wiring are the card's, and the words its
-- PC-sets. Assumes nothing.
use mathlib.Core.Path.{refl, ap}
use Prim.Native.Nat.{◌<◌}
use native.Mathlib.Omega.{arith}
use lib.ListN.{get_or}
use borrow.Author.Rules.{rules}
use Rattle.card.proofs.Kept.{card_fits, nets_are, asked_none, asked_past, asked_here}
use Rattle.card.proofs.ask_net.Goals as goal
use Rattle.card.proofs.ask_net.Goals.{After-gates_back-levels}

-- a net of the card is a place of the arrays
placed : (c : After-gates_back-levels) → c.args.n < 256
placed c =
    let s = c.args.s.now in
    let h = c.requires (c.if-not-s.false) in
    let few = (card_fits s h).fits.few in
    omega (arith, nets_are s h)

pub returns-then-not-s : goal.returns-then-not-s
returns-then-not-s c = asked_none c.args.s.now c.args.n (c.if-not-s.true)

pub returns-then-s-n : goal.returns-then-s-n
returns-then-s-n c = asked_past c.args.s.now c.args.n (c.if-not-s.false) c.if-s-n.true

pub wiring-requires : goal.wiring-requires
wiring-requires c = c.requires (c.if-not-s.false)

pub offset_bounds-levels-at : goal.offset_bounds-levels-at
offset_bounds-levels-at c = let l = placed (goal.at.offset_bounds-levels-at c).After-gates_back-levels in search rules

pub bounds-levels-at : goal.bounds-levels-at
bounds-levels-at c = placed (goal.at.bounds-levels-at c).After-gates_back-levels

pub offset_bounds-s-at : goal.offset_bounds-s-at
offset_bounds-s-at c = let l = placed (goal.at.offset_bounds-s-at c).After-gates_back-levels in search rules

pub bounds-s-at : goal.bounds-s-at
bounds-s-at c = placed (goal.at.bounds-s-at c).After-gates_back-levels

pub returns : goal.returns
returns c =
    let s = c.args.s.now in
    let loaded = c.if-not-s.false in
    let e = c.wiring.ensures in
    asked_here s (c.requires loaded) c.args.n _ _ loaded (omega arith) (ap (λ xs. get_or xs c.args.n 0) (rw (e.0, e.1, e.2) at c.gates_back-levels.ensures)) refl
