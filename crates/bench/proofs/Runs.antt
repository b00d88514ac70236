-- A bench run that is done: the steps that the entries name, what they leave, the bytes, and the session. Assumes nothing.
use mathlib.Core.Path.{◌≡◌, refl, sym, ap, ap₂, ◌∙◌, subst}
use mathlib.Core.Bool.{Bool, false, cond}
use mathlib.Core.List.{List, map}
use Prim.Native.Nat.{ℕ, ◌≤◌, ◌<◌}
use native.Mathlib.Omega.{arith}
use lib.Dec.{eqb}
use lib.ListN.{length, get_or, take}
use borrow.Author.Tests.{eq-eqb, ne_eqb}
use Rattle.lists.specs.Listed.{listed}
use Rattle.lists.specs.Filled.{filled}
use Rattle.lists.proofs.Tests.{out_map}
use Rattle.lists.proofs.Listed.{listed_self, listed_at, map_listed}
use Rattle.lists.proofs.Order.{at_in}
use Rattle.lists.proofs.Rooms.{fills_same}
use Rattle.word.specs.Word.{bit, val}
use Rattle.rule.specs.Net.{Net}
use Rattle.rule.specs.Steps.{IsStep, step_list, no_step, step_at}
use Rattle.std.specs.Prelude.{Ok}
use Rattle.rule.proofs.Runs.{take_in}
use Rattle.rule.proofs.StepLists.{list_only}
use Rattle.card.specs.declared.Session.{Session}
use Rattle.card.specs.Session.{card_of, resting}
use Rattle.card.specs.Held.{HasCard}
use Rattle.card.proofs.Kept.{card_steps}
use Rattle.session.specs.Moves.{ends}
use Rattle.step_vars.specs.Variables.{histories_from}
use Rattle.step_orders.specs.Orders.{steps_of}
use Rattle.step_orders.specs.Inner.Ready.{order_steps}
use Rattle.step_orders.proofs.Seen.{stands}
use Rattle.step_list.specs.Inner.Listing.{numbered_step}
use Rattle.step_list.proofs.Cards.{step_low}
use Rattle.step_run.specs.Runs.{Ran, ran}
use Rattle.step_run.specs.Inner.Runs.{Doable, ordered_steps}
use Rattle.step_run.specs.Vector.{start_vars, ran_along, ran_session}
use Rattle.step_run.proofs.Runs.{steps_doable}
use Rattle.bench.specs.Inner.Taken.{Taken, byte_in}
use Rattle.bench.specs.Bench.{Benched, not_done, byte_at, bench_done}
use Rattle.bench.proofs.Ties.{named_steps}

-- the entries' steps, place by place
ordered_whole : (nets times entries : List ℕ) → ordered_steps nets times entries (length entries) ≡ order_steps nets times entries
ordered_whole nets times entries =
    sym (ap (map (numbered_step nets times)) (listed_self entries 0) ∙ map_listed (numbered_step nets times) (λ i. get_or entries i 0) (length entries))

module _ (s : Session) (h : HasCard s) (nets times : List ℕ) (total : ℕ) (order : List ℕ) (t : Taken (card_of s) nets times total order) where
  abbrev c : List Net
  c = card_of s

  pub total_few : total ≤ 4096
  total_few = omega (arith, t.total_is, card_steps s h)

  -- the first entries are steps' numbers
  pub entry_low : (k i : ℕ) → i < length (take k order) → get_or (take k order) i 0 < 4096
  entry_low k i l = let e = get_or (take k order) i 0 in omega (arith, total_few, t.below e (take_in k order e (at_in (take k order) i 0 l)))

  -- and a step's number names a step
  number_step : (e : ℕ) → e < total → IsStep c (step_at (step_list c) e)
  number_step e l = list_only c _ (at_in (step_list c) e no_step (omega (arith, t.total_is)))

  pub number_net : (e : ℕ) → e < total → get_or nets e 0 < 256
  number_net e l = omega (arith, t.named.net_is e (omega (arith, t.total_is)), (step_low s h _ (number_step e l)).0)

  module _ (k : ℕ) (short : k ≤ total) where
    abbrev entries : List ℕ
    entries = take k order

    pub steps_first : ordered_steps nets times entries (length entries) ≡ steps_of c entries
    steps_first =
        ordered_whole nets times entries
        ∙ named_steps (step_list c) nets times t.named entries (λ e m. omega (arith, t.total_is, t.below e (take_in k order e m)))

    pub first_doable : Doable s.types s.counts (ordered_steps nets times entries (length entries))
    first_doable =
        subst (Doable s.types s.counts) (sym steps_first)
        (steps_doable s h (steps_of c entries) (λ j m. let o = out_map (step_at (step_list c)) entries j m in subst (IsStep c) (sym o.2) (number_step o.0 (t.below o.0 (take_in k order o.0 o.1)))))

    -- what they leave
    module _ (new : ℕ → Bool) (vars after : List ℕ) (count : ℕ) (done : List Bool) (room written : List ℕ)
        (started : vars ≡ start_vars s new)
        (made : record { words = after; count = count } ≡ ran s.types s.counts s.places s.sets vars (ordered_steps nets times entries (length entries)))
        (marked : done ≡ listed (stands order k) 4096)
        (filled_is : written ≡ filled (byte_in after nets times done) total room) where
      abbrev left : Ran
      left = record { words = after; count = count }

      along_is : left ≡ ran_along s new (steps_of c (take k order))
      unfolding ran_along
      along_is = made ∙ ap₂ (λ v ks. ran s.types s.counts s.places s.sets v ks) started steps_first

      byte_is : (e : ℕ) → e < total → byte_in after nets times done e ≡ byte_at c after (take k order) e
      byte_is e l =
          let b : e < length (step_list c) = omega (arith, t.total_is) in
          ap (λ x. cond x (val (bit (get_or after (get_or nets e 0) 0) (get_or times e 0))) not_done)
          (ap (λ xs. get_or xs e false) marked ∙ listed_at (stands order k) 4096 e false (omega (arith, total_few)))
          ∙ ap₂ (λ n u. cond (stands order k e) (val (bit (get_or after n 0) u)) not_done) (t.named.net_is e b) (t.named.time_is e b)

      written_is : written ≡ filled (byte_at c after (take k order)) (length (step_list c)) room
      written_is =
          filled_is ∙ fills_same 0 (byte_in after nets times done) (byte_at c after (take k order)) total room byte_is
          ∙ ap (λ n. filled (byte_at c after (take k order)) n room) t.total_is

      abbrev benched_as : Ran → Session → Benched
      benched_as r next = record { moved = record { answer = Ok r.count; session = next }; room = filled (byte_at c r.words (take k order)) (length (step_list c)) room }

      handed : (b : Bool) → eqb k (length (step_list c)) ≡ b → (next : Session) → next ≡ cond b (ran_session s left) s
          → record { moved = record { answer = Ok count; session = next }; room = written } ≡ bench_done s new order k room
      unfolding bench_done
      handed b e next q =
          ap₂ (λ x xs. record { moved = record { answer = Ok count; session = x }; room = xs }) (q ∙ ap (λ x. cond x (ran_session s left) s) (sym e)) written_is
          ∙ ap (λ r. benched_as r (cond (eqb k (length (step_list c))) (ran_session s r) s)) along_is

      pub part_done : k < total → record { moved = record { answer = Ok count; session = s }; room = written } ≡ bench_done s new order k room
      part_done l = handed false (ne_eqb k (length (step_list c)) (λ e. omega (arith, t.total_is))) s refl

      pub whole_done : total ≤ k → (before : List Bool) (words : List ℕ) (next : Session) → before ≡ listed (ends s) 256 → words ≡ histories_from s.sets after
          → next ≡ resting s s.rested before words → record { moved = record { answer = Ok count; session = next }; room = written } ≡ bench_done s new order k room
      unfolding ran_session
      whole_done l before words next eb ew en =
          handed mathlib.Core.Bool.true (eq-eqb k (length (step_list c)) (omega (arith, t.total_is))) next (en ∙ ap₂ (λ b w. resting s s.rested b w) eb ew)
