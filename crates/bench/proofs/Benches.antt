-- A bench run, for every good session and every input: each number exactly when document 01 gives it, in its order, and then nothing is
-- changed; else each step done has the rule's value, the rest 2; and the session moves only when the list is whole. Assumes nothing.
use mathlib.Core.Path.{◌≡◌, refl, sym, ap, ap₂, ◌∙◌, subst}
use mathlib.Core.Bool.{Bool, true, false, cond}
use mathlib.Core.List.{List, [], ◌∷◌, map}
use Prim.Native.Nat.{ℕ, zero, suc, ◌≤◌, ◌<◌}
use native.Mathlib.Omega.{arith}
use lib.Dec.{eqb, leb}
use lib.ListN.{length, get_or, take, length-map}
use lib.Seq.{take-length, length-take-le}
use borrow.Author.Tests.{eqb-true, eqb-false, eq-eqb, ne_eqb, leb-true, leb-false, le-leb, lt-leb}
use Rattle.lists.specs.Entries.{◌∈◌}
use Rattle.lists.proofs.Tests.{some_in, some_no, in_map}
use Rattle.lists.proofs.Rooms.{filled_length, filled_at, filled_past}
use Rattle.word.specs.Word.{bit, val}
use Rattle.rule.specs.Net.{Net}
use Rattle.rule.specs.Rule.{value}
use Rattle.rule.specs.Steps.{GoodOrder, step_list, step_at}
use Rattle.rule.specs.declared.Refusal.{Refusal}
use Rattle.rule.specs.declared.Refusal.TheVariants.{OrderLength, OrderEntry, OrderEarly, TooManyAsked, NoRoom}
use Rattle.std.specs.Prelude.{Ok, Err}
use Rattle.rule.proofs.Runs.{take_in}
use Rattle.rule.specs.Answers.{Verdict}
use Rattle.inputs.specs.Allowed.{Vector}
use Rattle.inputs.specs.Inputs.{given, vector_judged}
use Rattle.inputs.proofs.Verdicts.{Judging, refused, passed, judging, gets_judged, vector_judged_lem}
use Rattle.card.specs.declared.Session.{Session}
use Rattle.card.specs.Session.{card_of}
use Rattle.card.specs.Held.{HasCard}
use Rattle.card.proofs.Kept.{card_fits}
use Rattle.session.specs.Good.{Good}
use Rattle.session.specs.Moves.{ends, moved_by}
use Rattle.session.proofs.Kept.{moved_good}
use Rattle.step_orders.specs.Orders.{steps_of, order_judged}
use Rattle.step_orders.proofs.Judging.{Judgement, gets_15 as judged-15, gets_16 as judged-16, gets_17 as judged-17, taken, judgement, good_fit, good_passes}
use Rattle.step_run.specs.Runs.{Ran}
use Rattle.step_run.specs.Vector.{ran_along, ran_session}
use Rattle.step_run.specs.AnyOrder.{AnyOrder}
use Rattle.step_run.proofs.Engines.{run_any_order, run_count}
use Rattle.bench.specs.Bench.{Benched, not_done, byte_at, bench_refused, bench_done, bench_order, bench_vector, bench_of}
use Rattle.bench.specs.Allowed.{step_count, Entries, Reading, BenchGets, gets_vector, gets_15, gets_16, gets_17, gets_19, gets_18, Doing}

take_map : {A B : Type 0} (f : A → B) (k : ℕ) (xs : List A) → take k (map f xs) ≡ map f (take k xs)
take_map f zero xs = refl
take_map f (suc k) [] = refl
take_map f (suc k) (x ∷ xs) = ap (λ l. f x ∷ l) (take_map f k xs)

module _ (s : Session) (good : Good s) (v order : List ℕ) (k : ℕ) (room : List ℕ) where
  abbrev c : List Net
  c = card_of s

  abbrev new : ℕ → Bool
  new = given s.kinds v

  abbrev result : Benched
  result = bench_of s v order k room

  holds : s.rested ≡ true → HasCard s
  holds e = good.card (good.rest e).0

  -- Each number exactly when it applies

  pub data Ruling : Benched → Type 0 where
    refuses : (r : Refusal) → BenchGets s v order k room r → Ruling (bench_refused s room r)
    does : Doing s v order k room → Ruling (bench_done s new order k room)

  pub bench_ruled : Ruling result
  unfolding bench_of
  bench_ruled = go (vector_judged s.rested s.inputs v) (judging s.rested s.inputs v)
    where
      by_limits : s.rested ≡ true → Vector s.inputs v → GoodOrder c (steps_of c order) → (a : Bool) → leb k (step_count s) ≡ a → (b : Bool) → leb (step_count s) (length room) ≡ b
          → Ruling (cond a (cond b (bench_done s new order k room) (bench_refused s room NoRoom)) (bench_refused s room TooManyAsked))
      by_limits e w g false p b q = refuses TooManyAsked (gets_19 e w g (leb-false k (step_count s) p))
      by_limits e w g true p false q = refuses NoRoom (gets_18 e w g (leb-true k (step_count s) p) (leb-false (step_count s) (length room) q))
      by_limits e w g true p true q = does (record { rested = e; vector = w; order_good = g; asked = leb-true k (step_count s) p; roomy = leb-true (step_count s) (length room) q })

      by_order : (e : s.rested ≡ true) → Vector s.inputs v → (j : Verdict) → Judgement c (holds e).accepted.free (card_fits s (holds e)).pinned order j → Ruling (bench_order s new order k room j)
      by_order e w j (judged-15 n) = refuses OrderLength (gets_15 e w n)
      by_order e w j (judged-16 l n) = refuses OrderEntry (gets_16 e w l (λ x. n (x.below, x.once)))
      by_order e w j (judged-17 l b o n) = refuses OrderEarly (gets_17 e w l (record { below = b; once = o }) n)
      by_order e w j (taken g) = by_limits e w g (leb k (step_count s)) refl (leb (step_count s) (length room)) refl

      go : (x : Verdict) → Judging s.rested s.inputs v x → Ruling (bench_vector s v order k room x)
      go x (refused r g) = refuses r (gets_vector g)
      go x (passed e w) = by_order e w (order_judged c order) (judgement c (holds e).accepted.free (card_fits s (holds e)).pinned order)

  -- a refusal leaves the session and the room as they were, and its number applies
  pub bench_refused_lem : (r : Refusal) → result.moved.answer ≡ Err r → BenchGets s v order k room r × (result ≡ bench_refused s room r)
  bench_refused_lem r e = go result bench_ruled e
    where
      go : (x : Benched) → Ruling x → x.moved.answer ≡ Err r → BenchGets s v order k room r × (x ≡ bench_refused s room r)
      go x (refuses q g) e = let h : q ≡ r = cc in (subst (BenchGets s v order k room) h g, ap (bench_refused s room) h)
      go x (does d) e = absurd (not_refused e)
        where
          not_refused : (bench_done s new order k room).moved.answer ≡ Err r → ⊥
          not_refused e = let z : ◌≡◌ {A = ℕ} 0 1 = unfold bench_done in cc in omega arith

  -- the tests, from their answers
  by_vector : (x : Verdict) → vector_judged s.rested s.inputs v ≡ x → result ≡ bench_vector s v order k room x
  unfolding bench_of
  by_vector x q = ap (bench_vector s v order k room) q

  by_order : s.rested ≡ true → Vector s.inputs v → (j : Verdict) → order_judged c order ≡ j → result ≡ bench_order s new order k room j
  by_order e w j q = by_vector (Ok tt) (vector_judged_lem s.rested s.inputs v e w) ∙ ap (bench_order s new order k room) q

  by_limits : s.rested ≡ true → Vector s.inputs v → GoodOrder c (steps_of c order) → (a b : Bool) → leb k (step_count s) ≡ a → leb (step_count s) (length room) ≡ b
      → result ≡ cond a (cond b (bench_done s new order k room) (bench_refused s room NoRoom)) (bench_refused s room TooManyAsked)
  by_limits e w g a b p q =
      by_order e w (Ok tt) (good_passes c (holds e).accepted.free (card_fits s (holds e)).pinned order g)
      ∙ ap (λ x. cond x (cond (leb (step_count s) (length room)) (bench_done s new order k room) (bench_refused s room NoRoom)) (bench_refused s room TooManyAsked)) p
      ∙ ap (λ y. cond a (cond y (bench_done s new order k room) (bench_refused s room NoRoom)) (bench_refused s room TooManyAsked)) q

  module _ (e : s.rested ≡ true) where
    judged : Judgement c (holds e).accepted.free (card_fits s (holds e)).pinned order (order_judged c order)
    judged = judgement c (holds e).accepted.free (card_fits s (holds e)).pinned order

    fit : GoodOrder c (steps_of c order) → (length order ≡ step_count s) × Entries c order × Reading c order
    fit g =
        let f = good_fit c (holds e).accepted.free (card_fits s (holds e)).pinned order g in
        (f.long, record { below = f.entries; once = f.once }, f.after)

    judged_as_15 : ¬ (length order ≡ step_count s) → order_judged c order ≡ Err OrderLength
    judged_as_15 n = go (order_judged c order) judged
      where
        go : (j : Verdict) → Judgement c (holds e).accepted.free (card_fits s (holds e)).pinned order j → j ≡ Err OrderLength
        go j (judged-15 m) = refl
        go j (judged-16 l m) = absurd (n l)
        go j (judged-17 l b o m) = absurd (n l)
        go j (taken g) = absurd (n (fit g).0)

    judged_as_16 : length order ≡ step_count s → ¬ Entries c order → order_judged c order ≡ Err OrderEntry
    judged_as_16 l n = go (order_judged c order) judged
      where
        go : (j : Verdict) → Judgement c (holds e).accepted.free (card_fits s (holds e)).pinned order j → j ≡ Err OrderEntry
        go j (judged-15 m) = absurd (m l)
        go j (judged-16 q m) = refl
        go j (judged-17 q b o m) = absurd (n (record { below = b; once = o }))
        go j (taken g) = absurd (n (fit g).1)

    judged_as_17 : length order ≡ step_count s → Entries c order → ¬ Reading c order → order_judged c order ≡ Err OrderEarly
    judged_as_17 l x n = go (order_judged c order) judged
      where
        go : (j : Verdict) → Judgement c (holds e).accepted.free (card_fits s (holds e)).pinned order j → j ≡ Err OrderEarly
        go j (judged-15 m) = absurd (m l)
        go j (judged-16 q m) = absurd (m (x.below, x.once))
        go j (judged-17 q b o m) = refl
        go j (taken g) = absurd (n (fit g).2)

  -- and a number that applies is given
  pub bench_refuses : (r : Refusal) → BenchGets s v order k room r → result ≡ bench_refused s room r
  bench_refuses r (gets_vector g) = by_vector (Err r) (gets_judged s.rested s.inputs v r g)
  bench_refuses r (gets_15 e w n) = by_order e w (Err OrderLength) (judged_as_15 e n)
  bench_refuses r (gets_16 e w l n) = by_order e w (Err OrderEntry) (judged_as_16 e l n)
  bench_refuses r (gets_17 e w l x n) = by_order e w (Err OrderEarly) (judged_as_17 e l x n)
  bench_refuses r (gets_19 e w g l) = by_limits e w g false _ (lt-leb k (step_count s) l) refl
  bench_refuses r (gets_18 e w g l b) = by_limits e w g true false (le-leb k (step_count s) l) (lt-leb (step_count s) (length room) b)

  -- What a run that is done leaves

  module _ (d : Doing s v order k room) where
    pub bench_does : result ≡ bench_done s new order k room
    bench_does = by_limits d.rested d.vector d.order_good true true (le-leb k (step_count s) d.asked) (le-leb (step_count s) (length room) d.roomy)

    abbrev along : Ran
    along = ran_along s new (steps_of c (take k order))

    any : AnyOrder s new (steps_of c order)
    any = run_any_order s good d.rested new (steps_of c order) d.order_good

    order_long : length order ≡ step_count s
    order_long = (fit d.rested d.order_good).0

    count_is : along.count ≡ k
    count_is = run_count s new (steps_of c (take k order)) ∙ length-map (take k order) (step_at (step_list c)) ∙ length-take-le k order (omega (arith, d.asked, order_long))

    -- "A vector by steps and a bench run return the steps done."
    pub bench_answers : result.moved.answer ≡ Ok k
    unfolding bench_done
    bench_answers = ap (λ b. b.moved.answer) bench_does ∙ ap (λ n. Ok n) count_is

    -- the byte of a step that was done is the rule's value, that of any other says so
    pub bench_proper : (e : ℕ) → e ∈ take k order
        → get_or result.room e 0 ≡ val (value c (ends s) new (step_at (step_list c) e).net (step_at (step_list c) e).time)
    unfolding bench_done
    bench_proper e m =
        ap (λ b. get_or b.room e 0) bench_does
        ∙ filled_at (byte_at c along.words (take k order)) room (step_count s) e ((fit d.rested d.order_good).1.below e (take_in k order e m)) d.roomy
        ∙ ap (λ b. cond b (val (bit (get_or along.words (step_at (step_list c) e).net 0) (step_at (step_list c) e).time)) not_done) (some_in (λ x. eqb x e) (take k order) e m (eq-eqb e e refl))
        ∙ ap val (ap (λ ks. bit (get_or (ran_along s new ks).words (step_at (step_list c) e).net 0) (step_at (step_list c) e).time) (sym (take_map (step_at (step_list c)) k order))
        ∙ any.first_have k (step_at (step_list c) e) (subst (λ ks. step_at (step_list c) e ∈ ks) (sym (take_map (step_at (step_list c)) k order)) (in_map (step_at (step_list c)) (take k order) e m)))

    pub bench_others : (e : ℕ) → e < step_count s → ¬ (e ∈ take k order) → get_or result.room e 0 ≡ not_done
    unfolding bench_done
    bench_others e l n =
        ap (λ b. get_or b.room e 0) bench_does
        ∙ filled_at (byte_at c along.words (take k order)) room (step_count s) e l d.roomy
        ∙ ap (λ b. cond b (val (bit (get_or along.words (step_at (step_list c) e).net 0) (step_at (step_list c) e).time)) not_done)
        (some_no (λ x. eqb x e) (take k order) (λ x m. ne_eqb x e (λ q. n (subst (λ y. y ∈ take k order) q m))))

    -- "The session moves only when k is the whole list,"
    pub bench_part : k < step_count s → result.moved ≡ record { answer = Ok k; session = s }
    unfolding bench_done
    bench_part l =
        ap (λ b. b.moved) bench_does
        ∙ ap₂ (λ n x. record { answer = Ok n; session = cond x (ran_session s along) s }) count_is (ne_eqb k (step_count s) (λ q. omega arith))

    -- "and then exactly as a vector moves it"
    pub bench_whole : k ≡ step_count s → result.moved ≡ record { answer = Ok (step_count s); session = moved_by s new }
    unfolding bench_done
    bench_whole q =
        let w : take k order ≡ order = ap (λ n. take n order) (q ∙ sym order_long) ∙ take-length order in
        ap (λ b. b.moved) bench_does
        ∙ ap₂ (λ n x. record { answer = Ok n; session = cond x (ran_session s along) s }) (count_is ∙ q) (eq-eqb k (step_count s) q)
        ∙ ap (λ x. record { answer = Ok (step_count s); session = x }) (ap (λ es. ran_session s (ran_along s new (steps_of c es))) w ∙ any.whole_leaves)

  -- For every result

  -- "Lent room past the part written keeps its contents."
  pub bench_keeps_past : (e : ℕ) → step_count s ≤ e → get_or result.room e 0 ≡ get_or room e 0
  unfolding bench_done
  bench_keeps_past e l = go result bench_ruled
    where
      go : (x : Benched) → Ruling x → get_or x.room e 0 ≡ get_or room e 0
      go x (refuses r g) = refl
      go x (does d) = filled_past (byte_at c (along d).words (take k order)) room (step_count s) e l

  pub bench_keeps_length : length result.room ≡ length room
  unfolding bench_done
  bench_keeps_length = go result bench_ruled
    where
      go : (x : Benched) → Ruling x → length x.room ≡ length room
      go x (refuses r g) = refl
      go x (does d) = filled_length (byte_at c (along d).words (take k order)) room (step_count s)

  -- a part leaves the session as it was, done or refused
  pub bench_stays : k < step_count s → result.moved.session ≡ s
  bench_stays l = go result bench_ruled refl
    where
      go : (x : Benched) → Ruling x → result ≡ x → result.moved.session ≡ s
      go x (refuses r g) e = ap (λ b. b.moved.session) e
      go x (does d) e = ap (λ m. m.session) (bench_part d l)

  pub bench_good : Good result.moved.session
  bench_good = go result bench_ruled refl
    where
      by_part : (d : Doing s v order k room) (b : Bool) → eqb k (step_count s) ≡ b → Good result.moved.session
      by_part d true q = subst (λ m. Good m.session) (sym (bench_whole d (eqb-true k (step_count s) q))) (moved_good s good d.rested new)
      by_part d false q = subst (λ m. Good m.session) (sym (bench_part d (omega (arith, d.asked, eqb-false k (step_count s) q)))) good

      go : (x : Benched) → Ruling x → result ≡ x → Good result.moved.session
      go x (refuses r g) e = subst (λ b. Good b.moved.session) (sym e) good
      go x (does d) e = by_part d (eqb k (step_count s)) refl
