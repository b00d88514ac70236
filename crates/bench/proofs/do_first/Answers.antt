-- `bench::do_first` meets its contract: the entries' steps are run from the before values and the inputs' new ones; a part leaves the session,
-- the whole list moves it. Assumes nothing.
use mathlib.Core.Path.{◌≡◌, refl, sym, ◌∙◌, subst}
use native.Mathlib.Omega.{arith}
use Rattle.lists.specs.Listed.{listed}
use Rattle.inputs.specs.Inputs.{given}
use Rattle.card.specs.Held.{HasCard}
use lib.ListN.{length, take}
use Rattle.step_run.specs.Runs.{ran}
use Rattle.step_run.specs.Inner.Runs.{ordered_steps}
use Rattle.session.specs.Moves.{ends}
use Rattle.session.proofs.Held.{feeds_fit}
use Rattle.session.proofs.Moving.{tops_ends}
use Rattle.step_vars.specs.Inner.Variables.{Words}
use Rattle.step_run.specs.Vector.{start_vars}
use Rattle.step_vars.proofs.Stores.{start_words}
use Rattle.step_run.proofs.Vectors.{start_is}
use Rattle.bench.proofs.Runs.{entry_low, number_net, first_doable, part_done, whole_done}
use Rattle.bench.proofs.do_first.Goals as goal
use Rattle.bench.proofs.do_first.Goals.{After-run_order-count, After-start-vars, After-tops-before, Start}

card : (c : Start) → HasCard c.args.s.now
card c = c.requires.good.card (c.requires.good.rest c.requires.rested_value.0).0

before_is : (c : After-tops-before) → c.tops-before.result ≡ listed (ends c.args.s.now) 256
before_is c = tops_ends c.args.s.now c.tops-before.result c.tops-before.ensures

-- the variables start at the before values and the inputs' new ones
started : (c : After-start-vars) → c.start-vars.result ≡ start_vars c.args.s.now (given c.args.s.now.kinds c.args.v.now)
started c = start_is c.args.s.now ((let it : HasCard c.args.s.now = c.requires.good.card (c.requires.good.rest c.requires.rested_value.0).0 in it)) c.args.v.now c.requires.rested_value.1 _ _ ((let it : c.tops-before.result ≡ listed (ends c.args.s.now) 256 = tops_ends c.args.s.now c.tops-before.result c.tops-before.ensures in it)) c.start-vars.ensures

pub start-vars-requires : goal.start-vars-requires
start-vars-requires c = feeds_fit c.args.s.now (card (goal.at.start-vars-requires c).Start) c.args.v.now c.requires.rested_value.1

pub wiring-requires : goal.wiring-requires
wiring-requires c = card (goal.at.wiring-requires c).Start

pub run_order-count-requires : goal.run_order-count-requires
run_order-count-requires c =
    let a = c.args in
    let h = card (goal.at.run_order-count-requires c).Start in
    let t = c.requires.taken in
    record {
      order = (entry_low a.s.now h _ _ a.list.total a.order.now t _, subst Words (sym c.start-vars.ensures) (start_words _ _ _));
      doable = rw c.wiring.ensures.0 (first_doable a.s.now h _ _ a.list.total a.order.now t _ (omega (arith, c.requires.first_le_total.0)));
    }

pub among-done-requires : goal.among-done-requires
among-done-requires c =
    let a = c.args in entry_low a.s.now (card (goal.at.among-done-requires c).Start) _ _ a.list.total a.order.now c.requires.taken a.first

pub put_bytes-requires : goal.put_bytes-requires
put_bytes-requires c =
    (c.requires.first_le_total.1, number_net c.args.s.now (card (goal.at.put_bytes-requires c).Start) _ _ _ _ c.requires.taken)

-- what the entries' steps leave, by the session's own arrays
made : (c : After-run_order-count) → let a = c.args in let s = a.s.now in let entries = take a.first a.order.now in
    record { words = c.run_order-count.new.vars; count = c.run_order-count.result } ≡ ran s.types s.counts s.places s.sets c.start-vars.result (ordered_steps a.list.nets.now a.list.times.now entries (length entries))
made c =
    let a = c.args in
    let s = a.s.now in
    let entries = take a.first a.order.now in
    c.run_order-count.ensures ∙ λ i. ran s.types (c.wiring.ensures.0 i) (c.wiring.ensures.1 i) s.sets c.start-vars.result (ordered_steps a.list.nets.now a.list.times.now entries (length entries))

pub returns-then-first-list : goal.returns-then-first-list
returns-then-first-list c =
    let a = c.args in
    let at = goal.at.returns-then-first-list c in
    part_done a.s.now (card at.Start) _ _ a.list.total a.order.now c.requires.taken a.first c.requires.first_le_total.0 (given a.s.now.kinds a.v.now) _ _ _ _ a.room.now _
    (started at.After-start-vars) (made at.After-run_order-count) c.among-done.ensures c.put_bytes.ensures c.if-first-list.true

pub returns : goal.returns
returns c =
    let a = c.args in
    let at = goal.at.returns c in
    whole_done a.s.now (card at.Start) _ _ a.list.total a.order.now c.requires.taken a.first c.requires.first_le_total.0 (given a.s.now.kinds a.v.now) _ _ _ _ a.room.now _
    (started at.After-start-vars) (made at.After-run_order-count) c.among-done.ensures c.put_bytes.ensures c.if-first-list.false
    _ _ _ (before_is at.After-tops-before) c.histories_from-words.ensures refl
