-- `step_list::list` meets its contract. Assumes nothing.
use mathlib.Core.Path.{◌≡◌, sym, ap, ◌∙◌}
use mathlib.Core.Bool.{true}
use mathlib.Core.List.{List, ◌++◌}
use Prim.Native.Nat.{ℕ, ◌≤◌}
use native.Mathlib.Omega.{arith}
use lib.ListN.{length, get_or, take, drop}
use lib.Seq.{length-take-le}
use Rattle.lists.specs.Filled.{filled}
use Rattle.lists.proofs.Rooms.{fills_copied}
use Rattle.rule.specs.Steps.{step_list}
use Rattle.card.specs.Session.{card_of}
use Rattle.card.specs.Held.{HasCard}
use Rattle.step_list.proofs.Cards.{list_asked, list_held, list_total, list_few}
use Rattle.step_list.proofs.Answers.{list_none, list_short_nets, list_short_times, list_full}
use borrow.Author.Rules.{rules}
use Rattle.step_list.proofs.list.Goals as goal
use Rattle.step_list.proofs.list.Goals.{After-put_list-total, Else-not-s}

loaded : (c : Else-not-s) → c.args.s.now.loaded ≡ true
loaded c = c.if-not-s.false

card : (c : Else-not-s) → HasCard c.args.s.now
card c = c.requires.card ((let it : c.args.s.now.loaded ≡ true = c.if-not-s.false in it))

-- the list that is put has as many entries as the card has steps
size : (c : After-put_list-total) → c.put_list-total.result ≡ length (step_list (card_of c.args.s.now))
size c = list_total c.args.s.now ((let it : HasCard c.args.s.now = c.requires.card ((let it : c.args.s.now.loaded ≡ true = c.if-not-s.false in it)) in it)) c.put_list-total.ensures

few : (c : After-put_list-total) → c.put_list-total.result ≤ 4096
few c = list_few c.args.s.now ((let it : HasCard c.args.s.now = c.requires.card ((let it : c.args.s.now.loaded ≡ true = c.if-not-s.false in it)) in it)) c.put_list-total.ensures

pub returns-then-not-s : goal.returns-then-not-s
returns-then-not-s c = let a = c.args in list_none a.s.now a.nets.now a.times.now (c.if-not-s.true)

pub put_list-total-requires : goal.put_list-total-requires
put_list-total-requires c =
    record { gates_bound = list_asked c.args.s.now (card (goal.at.put_list-total-requires c).Else-not-s); nets_len = search rules }

pub returns-then-nets-total : goal.returns-then-nets-total
returns-then-nets-total c =
    let a = c.args in
    list_short_nets a.s.now a.nets.now a.times.now (loaded (goal.at.returns-then-nets-total c).Else-not-s) c.put_list-total.result (size (goal.at.returns-then-nets-total c).After-put_list-total) c.if-nets-total.true

pub returns-then-times-total : goal.returns-then-times-total
returns-then-times-total c =
    let a = c.args in
    list_short_times a.s.now a.nets.now a.times.now (loaded (goal.at.returns-then-times-total c).Else-not-s) c.put_list-total.result (size (goal.at.returns-then-times-total c).After-put_list-total) c.if-nets-total.false c.if-times-total.true

pub slice_bounds-step_nets-end : goal.slice_bounds-step_nets-end
slice_bounds-step_nets-end c = omega (arith, few (goal.at.slice_bounds-step_nets-end c).After-put_list-total, c.put_list-total.array_long)

pub slice_bounds-copy_from_slice-end-3 : goal.slice_bounds-copy_from_slice-end-3
slice_bounds-copy_from_slice-end-3 c =
    let enough = few (goal.at.slice_bounds-copy_from_slice-end-3 c).After-put_list-total in
    sym (length-take-le _ _ (omega (arith, enough, c.put_list-total.array_long)))

pub copy_from_slice-requires : goal.copy_from_slice-requires
copy_from_slice-requires c =
    let enough = few (goal.at.copy_from_slice-requires c).After-put_list-total in
    length-take-le _ _ c.if-nets-total.false ∙ sym (length-take-le _ _ (omega (arith, enough, c.put_list-total.array_long)))

pub returns : goal.returns
returns c =
    let a = c.args in
    let at = goal.at.returns c in
    let n = c.put_list-total.result in
    let enough = few at.After-put_list-total in
    let front : (from room : List ℕ) → length from ≡ 4096 → n ≤ length room → take n from ++ drop n room ≡ filled (λ e. get_or from e 0) n room =
    λ from room long fits. fills_copied 0 from room n (omega (arith, long, enough)) fits in
    list_full a.s.now a.nets.now a.times.now (loaded at.Else-not-s) n (list_held a.s.now (card at.Else-not-s) c.put_list-total.ensures)
    (search rules) (search rules) enough c.if-nets-total.false c.if-times-total.false _ _
    (ap (λ xs. xs ++ drop n a.nets.now) c.copy_from_slice.ensures.after ∙ front _ a.nets.now (search rules) c.if-nets-total.false)
    (ap (λ xs. xs ++ drop n a.times.now) c.copy_from_slice-2.ensures.after ∙ front _ a.times.now (search rules) c.if-times-total.false)
