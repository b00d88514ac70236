-- An order passes exactly when it has each step once and no step before one that it reads; and each of 15, 16, 17 is given exactly when it
-- applies. Assumes nothing.
use mathlib.Core.Path.{◌≡◌, refl, sym, ap, ◌∙◌, subst}
use mathlib.Core.Bool.{Bool, true, false, cond, not, false≢true}
use mathlib.Core.List.Memᴰ
use mathlib.Core.List.{List, [], ◌∷◌, map}
use mathlib.Core.Logic.{◌⊎◌, inl, inr}
use Prim.Native.Nat.{ℕ, ◌≤◌, ◌<◌}
use native.Mathlib.Omega.{arith}
use native.Mathlib.Decide.{dec_lt}
use lib.Dec.{eqb, ltb}
use lib.ListN.{length, length-map, get_or-eq_default}
use borrow.Author.Tests.{eqb-true, eqb-false, eq-eqb, ne_eqb, ltb-true, lt-ltb}
use Rattle.lists.specs.Entries.{◌∈◌, some, every, Sorted, Distinct}
use Rattle.lists.proofs.Bools.{and_both, and_make, not_both}
use Rattle.lists.proofs.Tests.{some_out, some_in, some_no, every_at, every_yes, in_map, out_map}
use Rattle.lists.proofs.Number.{distinct_length}
use Rattle.lists.proofs.Order.{at_in, distinct_at}
use Rattle.rule.specs.Net.{Net, Pinned}
use Rattle.rule.specs.Level.{Looped}
use Rattle.rule.specs.Steps.{Step, same_step, IsStep, step_reads, GoodOrder, step_list, no_step, step_at}
use Rattle.rule.specs.declared.Refusal.TheVariants.{OrderLength, OrderEntry, OrderEarly}
use Rattle.rule.proofs.Runs.{pairs_of_ready}
use Rattle.rule.proofs.StepRuns.{same_one, same_self, ahead, step_time, good_ready}
use Rattle.rule.proofs.StepLists.{list_all, list_only, list_once, good_number}
use Rattle.rule.specs.Answers.{Verdict}
use Rattle.std.specs.Prelude.{Ok, Err}
use Rattle.step_orders.specs.Orders.{once_each, entries_fit, steps_of, order_ready, order_judged}

-- Lists of which no entry stands twice

-- a list without repeats that has as many entries as one that holds them all has all of its entries
all_of : (xs ys : List Step) → Distinct xs → ((x : Step) → x ∈ xs → x ∈ ys) → length ys ≤ length xs → (y : Step) → y ∈ ys → y ∈ xs
all_of xs ys d h l y m = go (some (same_step y) xs) refl
  where
    go : (b : Bool) → some (same_step y) xs ≡ b → y ∈ xs
    go true e = let r = some_out (same_step y) xs e in subst (λ z. z ∈ xs) (sym (same_one y r.0 r.2)) r.1
    go false e =
        absurd (let k = distinct_length (y ∷ xs) ys (λ x i q. not_both (some (same_step y) xs) (some_in (same_step y) xs x i (subst (λ z. same_step y z ≡ true) q (same_self y))) e, d) (all y) in omega arith)
      where
        all : (z x : Step) → x ∈ y ∷ xs → x ∈ ys
        all z x i = two (Memᴰ.cases_cons i)
          where
            two : (x ≡ y) ⊎ (x ∈ xs) → x ∈ ys
            two (inl q) = subst (λ w. w ∈ ys) (sym q) m
            two (inr j) = h x j

-- `once_each`

pub once_distinct : (es : List ℕ) → once_each es ≡ true → Distinct es
once_distinct [] e = tt
once_distinct (x ∷ es) e =
    let o = and_both (not (some (λ y. eqb y x) es)) (once_each es) e in
    (λ y m q. no_twice (some (λ z. eqb z x) es) refl o.0 y m q, once_distinct es o.1)
  where
    no_twice : (b : Bool) → some (λ z. eqb z x) es ≡ b → not b ≡ true → (y : ℕ) → y ∈ es → ¬ (x ≡ y)
    no_twice true q n y m p = false≢true n
    no_twice false q n y m p = not_both (some (λ z. eqb z x) es) (some_in (λ z. eqb z x) es y m (eq-eqb y x (sym p))) q

pub distinct_once : (es : List ℕ) → Distinct es → once_each es ≡ true
distinct_once [] d = refl
distinct_once (x ∷ es) d =
    and_make _ _ (ap not (some_no (λ y. eqb y x) es (λ y m. ne_eqb y x (λ q. d.0 y m (sym q))))) (distinct_once es d.1)

-- `entries_fit`
module _ (total : ℕ) (order : List ℕ) where
  pub entries_true : ((e : ℕ) → e ∈ order → e < total) → Distinct order → entries_fit total order ≡ true
  unfolding entries_fit
  entries_true entries once = and_make _ _ (every_yes (λ e. ltb e total) order (λ e m. lt-ltb e total (entries e m))) (distinct_once order once)

  pub entries_of : entries_fit total order ≡ true → ((e : ℕ) → e ∈ order → e < total) × Distinct order
  unfolding entries_fit
  entries_of q = let o = and_both (every (λ e. ltb e total) order) (once_each order) q in (λ e m. ltb-true e total (every_at (λ x. ltb x total) order o.0 e m), once_distinct order o.1)

-- a map that tells entries apart keeps a list without repeats
map_distinct : (f : ℕ → Step) (es : List ℕ) → ((i j : ℕ) → i ∈ es → j ∈ es → f i ≡ f j → i ≡ j) → Distinct es → Distinct (map f es)
map_distinct f [] inj d = tt
map_distinct f (e ∷ es) inj d = (
  λ k m q. let r = out_map f es k m in d.0 r.0 r.1 (inj e r.0 (Memᴰ.head refl) (Memᴰ.tail r.1) (q ∙ r.2)),
  map_distinct f es (λ i j m n. inj i j (Memᴰ.tail m) (Memᴰ.tail n)) d.1,
)

distinct_map : (f : ℕ → Step) (es : List ℕ) → Distinct (map f es) → Distinct es
distinct_map f [] d = tt
distinct_map f (e ∷ es) d = (λ y m q. d.0 (f y) (in_map f es y m) (ap f q), distinct_map f es d.1)

module _ (c : List Net) (free : ¬ Looped c) (pinned : Pinned c) (order : List ℕ) where
  abbrev total : ℕ
  total = length (step_list c)

  abbrev ks : List Step
  ks = steps_of c order

  steps_long : length ks ≡ length order
  steps_long = length-map order (step_at (step_list c))

  -- an entry that is a step's number names a step, and only such an entry does
  entry_step : (e : ℕ) → e < total → IsStep c (step_at (step_list c) e)
  entry_step e l = list_only c _ (at_in (step_list c) e no_step l)

  step_entry : (e : ℕ) → IsStep c (step_at (step_list c) e) → e < total
  step_entry e s = go (dec_lt e total)
    where
      go : Dec (e < total) → e < total
      go (yes l) = l
      go (no l) =
          let q : step_at (step_list c) e ≡ no_step = get_or-eq_default (step_list c) no_step {n = e} (omega arith) in
          let z : 0 < no_step.time = step_time c no_step (subst (IsStep c) q s) in
          absurd (omega arith)

  -- what the tests say
  pub record Fit : Type 0 where
    pub long : length order ≡ total
    pub entries : (e : ℕ) → e ∈ order → e < total
    pub once : Distinct order
    pub after : Sorted (λ k later. ¬ (later ∈ step_reads c k)) ks

  -- such an order is a good one,
  pub fit_good : Fit → GoodOrder c ks
  fit_good f = record { all = all; only = only; once = distinct; after = f.after }
    where
      only : (k : Step) → k ∈ ks → IsStep c k
      only k m = let r = out_map (step_at (step_list c)) order k m in subst (IsStep c) (sym r.2) (entry_step r.0 (f.entries r.0 r.1))

      distinct : Distinct ks
      distinct = map_distinct (step_at (step_list c)) order (λ i j m n q. distinct_at (step_list c) no_step (list_once c) i j (f.entries i m) (f.entries j n) q) f.once

      all : (k : Step) → IsStep c k → k ∈ ks
      all k s = all_of ks (step_list c) distinct (λ x m. list_all c free pinned x (only x m)) (omega (arith, steps_long, f.long)) k (list_all c free pinned k s)

  -- and a good one is such an order
  pub good_fit : GoodOrder c ks → Fit
  good_fit g = record {
    long = sym steps_long ∙ good_number c free pinned ks g;
    entries = λ e m. step_entry e (g.only _ (in_map (step_at (step_list c)) order e m));
    once = distinct_map (step_at (step_list c)) order g.once;
    after = g.after;
  }

  ready_true : Fit → order_ready c order ≡ true
  unfolding order_ready
  ready_true f = good_ready c ks (fit_good f)

  after_of : ((e : ℕ) → e ∈ order → e < total) → Distinct order → order_ready c order ≡ true → Sorted (λ k later. ¬ (later ∈ step_reads c k)) ks
  unfolding order_ready
  after_of entries once q =
      pairs_of_ready same_step (step_reads c) same_one same_self ahead ks (λ k m. ne_eqb k.time 0 (λ z. let t = later k m in omega arith))
      (map_distinct (step_at (step_list c)) order (λ i j m n e. distinct_at (step_list c) no_step (list_once c) i j (entries i m) (entries j n) e) once) q
    where
      later : (k : Step) → k ∈ ks → 0 < k.time
      later k m = let r = out_map (step_at (step_list c)) order k m in step_time c k (subst (IsStep c) (sym r.2) (entry_step r.0 (entries r.0 r.1)))

  -- "in any order that has each step once and no step before one whose value it reads"
  pub good_passes : GoodOrder c ks → order_judged c order ≡ (Ok tt)
  unfolding order_judged
  good_passes g = let f = good_fit g in rw (eq-eqb (length order) total f.long, entries_true total order f.entries f.once, ready_true f)

  -- how the tests went
  pub data Judgement : Verdict → Type 0 where
    gets_15 : ¬ (length order ≡ total) → Judgement (Err OrderLength)
    gets_16 : length order ≡ total → ¬ (((e : ℕ) → e ∈ order → e < total) × Distinct order) → Judgement (Err OrderEntry)
    gets_17 : length order ≡ total → ((e : ℕ) → e ∈ order → e < total) → Distinct order → ¬ Sorted (λ k later. ¬ (later ∈ step_reads c k)) ks → Judgement (Err OrderEarly)
    taken : GoodOrder c ks → Judgement (Ok tt)

  pub judgement : Judgement (order_judged c order)
  unfolding order_judged
  judgement = go (eqb (length order) total) refl (entries_fit total order) refl (order_ready c order) refl
    where
      go : (a : Bool) → eqb (length order) total ≡ a → (b : Bool) → entries_fit total order ≡ b → (r : Bool) → order_ready c order ≡ r
          → Judgement (cond a (cond b (cond r (Ok tt) (Err OrderEarly)) (Err OrderEntry)) (Err OrderLength))
      go false p b q r w = gets_15 (eqb-false (length order) total p)
      go true p false q r w =
          gets_16 (eqb-true (length order) total p) (λ h. not_both (entries_fit total order) (entries_true total order h.0 h.1) q)
      go true p true q false w = let o = entries_of total order q in gets_17 (eqb-true (length order) total p) o.0 o.1 (λ a. not_both (order_ready c order) (ready_true (record { long = eqb-true (length order) total p; entries = o.0; once = o.1; after = a })) w)
      go true p true q true w = let o = entries_of total order q in taken (fit_good (record { long = eqb-true (length order) total p; entries = o.0; once = o.1; after = after_of o.0 o.1 w }))
