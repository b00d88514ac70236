-- What a bench run hands back: refused for the order, for too many entries asked, for too short room, or done. Assumes nothing.
use mathlib.Core.Path.{◌≡◌, refl, sym, ap, ◌∙◌}
use mathlib.Core.Bool.{Bool, true, false, cond}
use mathlib.Core.List.{List}
use Prim.Native.Nat.{ℕ, ◌≤◌, ◌<◌}
use native.Mathlib.Omega.{arith}
use lib.Dec.{eqb, leb}
use lib.ListN.{length}
use borrow.Author.Tests.{eqb-true, le-leb, lt-leb}
use Rattle.lists.proofs.Order.{at_in}
use Rattle.rule.specs.Net.{Net}
use Rattle.rule.specs.Steps.{Step, step_list, no_step}
use Rattle.rule.specs.declared.Refusal.{Refusal}
use Rattle.rule.specs.declared.Refusal.TheVariants.{OrderLength, OrderEntry, OrderEarly, TooManyAsked, NoRoom}
use Rattle.rule.proofs.StepLists.{list_only}
use Rattle.rule.specs.Answers.{Verdict}
use Rattle.std.specs.Prelude.{Ok, Err}
use Rattle.inputs.specs.Inputs.{given, vector_judged}
use Rattle.card.specs.declared.Session.{Session}
use Rattle.card.specs.Session.{card_of}
use Rattle.card.specs.Held.{HasCard}
use Rattle.session.specs.Moved.{Moved}
use Rattle.session.specs.Moves.{refused_move}
use Rattle.step_orders.specs.Orders.{entries_fit, order_ready, order_judged}
use Rattle.step_orders.specs.Inner.Ready.{StepEntry, judged_in}
use Rattle.step_orders.proofs.Judging.{entries_of}
use Rattle.step_list.specs.Inner.Listing.{steps_in, gates_in, Holds}
use Rattle.step_list.proofs.Cards.{list_held, list_total, list_few, step_low}
use Rattle.step_list.proofs.Lists.{held_net, held_time}
use Rattle.bench.specs.Inner.Taken.{Naming, Taken}
use Rattle.bench.specs.Bench.{Benched, bench_refused, bench_done, bench_order, bench_vector, bench_of}
use Rattle.bench.proofs.Ties.{judged_is}

-- The list in two arrays

pub held_named : {ks : List Step} {nets₀ times₀ nets times : List ℕ} {n : ℕ} → Holds ks nets₀ times₀ nets times n → length nets₀ ≡ 4096 → length times₀ ≡ 4096 → n ≤ 4096 → Naming ks nets times
held_named h ln lt few = record { net_is = held_net h ln lt few; time_is = held_time h ln lt few }

-- a verdict that passes
passed_tests : (a b r : Bool) → ◌≡◌ {A = Verdict} (cond a (cond b (cond r (Ok tt) (Err OrderEarly)) (Err OrderEntry)) (Err OrderLength)) (Ok tt) → (a ≡ true) × (b ≡ true)
passed_tests true true r e = (refl, refl)
passed_tests true false r e = let z : ◌≡◌ {A = ℕ} 0 1 = cc in absurd (omega arith)
passed_tests false b r e = let z : ◌≡◌ {A = ℕ} 0 1 = cc in absurd (omega arith)

module _ (s : Session) (h : HasCard s) where
  abbrev c : List Net
  c = card_of s

  module _ {nets₀ times₀ nets times : List ℕ} {total : ℕ} (held : Holds (steps_in s.sets (gates_in s.order s.gates)) nets₀ times₀ nets times total)
      (ln : length nets₀ ≡ 4096) (lt : length times₀ ≡ 4096) where
    list_named : Naming (step_list c) nets times
    list_named = held_named (list_held s h held) ln lt (list_few s h held)

    pub list_entry : (e : ℕ) → e < total → StepEntry nets times e
    list_entry e l =
        let b : e < length (step_list c) = omega (arith, list_total s h held) in
        let r = step_low s h _ (list_only c _ (at_in (step_list c) e no_step b)) in
        let n = list_named.net_is e b in
        let t = list_named.time_is e b in
        record { number = omega (arith, list_few s h held); net = omega (arith, r.0); time = record { late = omega (arith, r.1); low = omega (arith, r.2) } }

    module _ (order : List ℕ) (verdict : Verdict) (judged : verdict ≡ judged_in s.counts s.places s.sets nets times total order) where
      pub verdict_is : verdict ≡ order_judged c order
      verdict_is = judged ∙ ap (λ n. judged_in s.counts s.places s.sets nets times n order) (list_total s h held) ∙ judged_is s h nets times order list_named

      pub passed_taken : verdict ≡ (Ok tt) → Taken c nets times total order
      unfolding order_judged
      passed_taken e =
          let p = passed_tests (eqb (length order) (length (step_list c))) (entries_fit (length (step_list c)) order) (order_ready c order) (sym verdict_is ∙ e) in
          record {
            total_is = list_total s h held;
            named = list_named;
            long = eqb-true (length order) (length (step_list c)) p.0 ∙ sym (list_total s h held);
            below = λ x m. omega (arith, list_total s h held, (entries_of (length (step_list c)) order p.1).0 x m);
          }

-- An order judged

module _ (s : Session) (new : ℕ → Bool) (order : List ℕ) (k : ℕ) (room : List ℕ) (verdict : Verdict) (judged : verdict ≡ order_judged (card_of s) order) where
  abbrev answer : Verdict → Benched
  answer v = bench_order s new order k room v

  -- 15, 16, 17
  pub order_faulty : (why : Refusal) (m : Moved) → verdict ≡ Err why → m ≡ refused_move s why → record { moved = m; room = room } ≡ answer (order_judged (card_of s) order)
  order_faulty why m e q = ap (λ x. record { moved = x; room = room }) q ∙ ap answer (sym e ∙ judged)

  abbrev steps : ℕ
  steps = length (step_list (card_of s))

  abbrev tested : Bool → Bool → Benched
  tested a b = cond a (cond b (bench_done s new order k room) (bench_refused s room NoRoom)) (bench_refused s room TooManyAsked)

  module _ (passed : verdict ≡ (Ok tt)) (total : ℕ) (total_is : total ≡ steps) where
    by_tests : (a b : Bool) → leb k steps ≡ a → leb steps (length room) ≡ b → tested a b ≡ answer (order_judged (card_of s) order)
    by_tests a b p q = sym (ap (λ x. tested x (leb steps (length room))) p ∙ ap (tested a) q) ∙ ap answer (sym passed ∙ judged)

    -- 19
    pub order_many : (m : Moved) → total < k → m ≡ refused_move s TooManyAsked → record { moved = m; room = room } ≡ answer (order_judged (card_of s) order)
    order_many m l q = ap (λ x. record { moved = x; room = room }) q ∙ by_tests false _ (lt-leb k steps (omega (arith, total_is))) refl

    -- 18
    pub order_short : (m : Moved) → k ≤ total → length room < total → m ≡ refused_move s NoRoom → record { moved = m; room = room } ≡ answer (order_judged (card_of s) order)
    order_short m l b q =
        ap (λ x. record { moved = x; room = room }) q ∙ by_tests true false (le-leb k steps (omega (arith, total_is))) (lt-leb steps (length room) (omega (arith, total_is)))

    pub order_done : (r : Benched) → k ≤ total → total ≤ length room → r ≡ bench_done s new order k room → r ≡ answer (order_judged (card_of s) order)
    order_done r l b q = q ∙ by_tests true true (le-leb k steps (omega (arith, total_is))) (le-leb steps (length room) (omega (arith, total_is)))

-- A vector judged

module _ (s : Session) (v order : List ℕ) (k : ℕ) (room : List ℕ) (x : Verdict) (e : x ≡ vector_judged s.rested s.inputs v) where
  -- 12, 10, 11
  pub bench_refused_by : (why : Refusal) (m : Moved) → x ≡ Err why → m ≡ refused_move s why → record { moved = m; room = room } ≡ bench_of s v order k room
  unfolding bench_of
  bench_refused_by why m q p = ap (λ y. record { moved = y; room = room }) p ∙ ap (bench_vector s v order k room) (sym q ∙ e)

  pub bench_run : (r : Benched) → x ≡ (Ok tt) → r ≡ bench_order s (given s.kinds v) order k room (order_judged (card_of s) order) → r ≡ bench_of s v order k room
  unfolding bench_of
  bench_run r q p = p ∙ ap (bench_vector s v order k room) (sym q ∙ e)
