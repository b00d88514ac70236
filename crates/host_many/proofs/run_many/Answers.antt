-- `host_many::run_many` meets its contract. The loop's invariant: words and count are those that so many vectors leave, and their words are put. Assumes nothing.
use mathlib.Core.Path.{◌≡◌, refl, sym, ap, ◌∙◌}
use Prim.Native.Nat.{◌+◌, ◌-◌, ◌*◌, ◌≤◌}
use native.Mathlib.Omega.{arith}
use lib.ListN.{length, get_or, drop, length-drop}
use lib.Seq.{get_or-take, length-take-le}
use borrow.Author.Rules.{rules}
use Rattle.lists.specs.Places.{part, area}
use Rattle.card.specs.Held.{HasCard}
use Rattle.host_bytes.proofs.Areas.{put_placed}
use Rattle.host_many.specs.Inner.Words.{words_by}
use Rattle.host_many.specs.Many.{many_by}
use Rattle.host_many.proofs.Many.{Turn, turn_has, many_more, many_length, many_vector, left_long, next_by}
use Rattle.host_many.proofs.run_many.Goals as goal
use Rattle.host_many.proofs.run_many.Goals.{At-loop-done, In-loop-done, Start}

-- a rested session holds a card
card : (c : Start) → HasCard c.args.s.now
card c = c.requires.good.card (c.requires.good.rest c.requires.rested_value.0).0

-- the bytes of the next vector, and the room for its words, are there
has : (c : In-loop-done) → (let j = c.loop-done.done in let a = c.args in let s = a.s.now in Turn s a.vectors.now (length a.room.now) j (j * s.inputs) (j * s.nets))
has c = turn_has c.args.s.now _ _ c.args.k c.loop-done.done _ _ refl refl c.loop-done-test.true c.requires.inputs_in_bounds.0 c.requires.inputs_in_bounds.2

-- the room has kept its length
room_long : (c : At-loop-done) → length c.loop-done.room ≡ length c.args.room.now
room_long c = let a = c.args in ap length c.loop-done.invariant.room ∙ many_length a.engine a.s.now a.vectors.now a.s.now.inputs c.loop-done.done a.room.now

pub list_for-total-requires : goal.list_for-total-requires
list_for-total-requires c = record { held = card (goal.at.list_for-total-requires c).Start; nets_len = search rules }

pub loop-done-init : goal.loop-done-init
unfolding many_by
loop-done-init c = record { words = refl; count = refl; room = refl }

pub run_one-count-requires-clause-held : goal.run_one-count-requires-clause-held
run_one-count-requires-clause-held c =
    let l = c.loop-done in
    let a = c.args in
    let s = a.s.now in
    let at = goal.at.run_one-count-requires-clause-held c in
    let turn = has at.In-loop-done in
    let fits = turn.bytes_fit in (
      card at.Start,
      ap length turn.bytes_are ∙ (many_vector a.vectors.now s.inputs l.done c.requires.rested_value.1 fits).size,
      ap length l.invariant.words ∙ left_long a.engine s c.requires.good c.requires.rested_value.0 a.vectors.now a.room.now c.requires.rested_value.1 l.done (omega (arith, fits)),
    )

pub loop-done-preserved : goal.loop-done-preserved
loop-done-preserved c =
    let l = c.loop-done in
    let a = c.args in
    let s = a.s.now in
    let vs = a.vectors.now in
    let room = a.room.now in
    let p = goal.at.loop-done-preserved c in
    let turn = has p.In-loop-done in
    let x = l.done * s.nets in
    let words = c.run_one-count.new.words in
    let next =
    c.run_one-count.ensures
    ∙ ap (words_by a.engine s l.words) turn.bytes_are
    ∙ ap (λ ws. words_by a.engine s ws (part vs (l.done * s.inputs) s.inputs)) l.invariant.words
    ∙ next_by s c.requires.good c.requires.rested_value.0 vs room c.requires.rested_value.1 a.engine l.done turn.bytes_fit in
    let more = many_more a.engine s vs s.inputs l.done room in
    let there : x + s.nets ≤ length l.room = omega (arith, turn.words_there, room_long p.At-loop-done) in
    let size : length c.copy_from_slice.new.self ≡ x + s.nets - x =
    c.copy_from_slice.ensures.len ∙ length-take-le (x + s.nets - x) (drop x l.room) (omega (arith, there, length-drop x l.room)) in
    let put = put_placed l.room x (x + s.nets) words c.copy_from_slice.new.self (omega arith) there size
    (λ i u. ap (λ xs. get_or xs i 0) c.copy_from_slice.ensures.after ∙ get_or-take s.nets words i 0 (omega arith)) in record {
      words = ap (λ y. y.words) next ∙ sym (ap (λ y. y.session.words) more);
      count = ap (λ y. y.count) next ∙ sym (ap (λ y. y.count) more);
      room = put ∙ (λ z. area (l.invariant.room z) x (x + s.nets) (next z).words) ∙ sym (ap (λ y. y.words) more);
    }
