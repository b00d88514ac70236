-- `step_records::list_records` meets its contract: its tests are the refusals in their order. The loop's invariant: the first e records are written.
-- Assumes nothing.
use mathlib.Core.Path.{◌≡◌, sym}
use mathlib.Core.Bool.{true}
use Prim.Native.Nat.{◌≤◌}
use native.Mathlib.Omega.{arith}
use lib.ListN.{length}
use Rattle.lists.proofs.Rooms.{fills_none, fills_next}
use Rattle.rule.specs.Steps.{step_list}
use Rattle.card.specs.Session.{card_of}
use Rattle.card.specs.Held.{HasCard}
use Rattle.step_list.proofs.Cards.{list_asked, list_held, list_total, list_few}
use Rattle.step_records.specs.Records.{blank_record}
use Rattle.step_records.specs.Inner.Records.{record_in}
use Rattle.step_records.proofs.Listings.{records_12, records_18, records_made}
use borrow.Author.Rules.{rules}
use Rattle.step_records.proofs.list_records.Goals as goal
use Rattle.step_records.proofs.list_records.Goals.{After-put_list-total, Else-not-s}

loaded : (c : Else-not-s) → c.args.s.now.loaded ≡ true
loaded c = c.if-not-s.false

card : (c : Else-not-s) → HasCard c.args.s.now
card c = c.requires.card c.if-not-s.false

-- where the list is put: its length
size : (c : After-put_list-total) → c.put_list-total.result ≡ length (step_list (card_of c.args.s.now))
size c = list_total c.args.s.now (c.requires.card c.if-not-s.false) c.put_list-total.ensures

few : (c : After-put_list-total) → c.put_list-total.result ≤ 4096
few c = list_few c.args.s.now (c.requires.card c.if-not-s.false) c.put_list-total.ensures

pub returns-then-not-s : goal.returns-then-not-s
returns-then-not-s c = let a = c.args in sym (records_12 a.s.now a.room.now c.if-not-s.true)

pub put_list-total-requires : goal.put_list-total-requires
put_list-total-requires c = record { gates_bound = list_asked c.args.s.now (card (goal.at.put_list-total-requires c).Else-not-s); nets_len = search rules }

pub returns-then-room-total : goal.returns-then-room-total
returns-then-room-total c =
    let a = c.args in
    let at = goal.at.returns-then-room-total c in
    sym (records_18 a.s.now a.room.now (loaded at.Else-not-s) (omega (arith, size at.After-put_list-total, c.if-room-total.true)))

pub loop-e-init : goal.loop-e-init
loop-e-init c = fills_none blank_record _ c.args.room.now

pub bounds-nets-e : goal.bounds-nets-e
bounds-nets-e c = omega (arith, few (goal.at.bounds-nets-e c).After-put_list-total)

pub bounds-times-e : goal.bounds-times-e
bounds-times-e c = omega (arith, few (goal.at.bounds-times-e c).After-put_list-total)

pub loop-e-preserved : goal.loop-e-preserved
loop-e-preserved c =
    let l = c.loop-e in
    fills_next blank_record (record_in c.put_list-total.new.nets c.put_list-total.new.times) l.e c.args.room.now l.room l.invariant (omega arith)

pub returns : goal.returns
returns c =
    let a = c.args in
    let at = goal.at.returns c in
    let e : c.loop-e.e ≡ c.put_list-total.result = omega arith in
    records_made a.s.now a.room.now (list_held a.s.now (card at.Else-not-s) c.put_list-total.ensures) (search rules) (search rules) (few at.After-put_list-total)
    (loaded at.Else-not-s) c.if-room-total.false _ (rw e at c.loop-e.invariant)
