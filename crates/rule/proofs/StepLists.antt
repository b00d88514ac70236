-- The step list: it has every step once and nothing else, by level, net and time; it is itself a good order; it has as many entries as
-- there are pairs of a gate and a time with a chain. Assumes nothing.
use mathlib.Core.Path.{◌≡◌, refl, sym, ap, ◌∙◌}
use mathlib.Core.Bool.{Bool, true, false}
use mathlib.Core.List.Memᴰ
use mathlib.Core.List.{List, [], ◌∷◌}
use mathlib.Core.Logic.{inl, inr}
use Prim.Native.Nat.{ℕ, ◌≤◌, ◌<◌}
use native.Mathlib.Omega.{arith}
use lib.ListN.{length}
use Rattle.lists.specs.Entries.{◌∈◌, each, when, from, sum, Sorted, Distinct, Number}
use Rattle.lists.proofs.Joined.{in_from, out_from, in_each, out_each, in_when, out_when, each_ext, length_each, sum_on}
use Rattle.lists.proofs.Order.{sorted_from, sorted_each, sorted_when, sorted_one, sorted_weaken, distinct_of_sorted}
use Rattle.lists.proofs.Number.{number_unique}
use Rattle.lists.proofs.Tests.{out_map}
use Rattle.word.specs.Word.{val}
use Rattle.rule.specs.Net.{Net, pins, Pinned}
use Rattle.rule.specs.Chain.{pc_set}
use Rattle.rule.specs.Level.{level, depth, Looped}
use Rattle.rule.specs.Steps.{Step, IsStep, Joined, read_at, step_reads, GoodOrder, EarlierGate, Earlier, gate_order, net_steps, step_list}
use Rattle.rule.proofs.Chains.{set_of_chain, chain_of_set, set_of_gate}
use Rattle.rule.proofs.Depths.{level_depth, level_up, element_level}
use Rattle.rule.proofs.GateOrders.{in_order, order_sorted}
use Rattle.rule.proofs.StepRuns.{step_time}

module _ (c : List Net) where
  out_net : (d n : ℕ) (k : Step) → k ∈ net_steps c d n → (k.net ≡ n) × (pc_set c k.net k.time ≡ true) × (0 < k.time) × (k.time ≤ d)
  unfolding net_steps
  out_net d n k m =
      let r = out_each _ (from 1 d) k m in
      let q = out_when (pc_set c n r.0) _ k r.2 in
      let t = out_from 1 d r.0 r.1 in
      let s = Memᴰ.eq_of_singleton q.1 in
      let x : k.net ≡ n = ap (λ y. y.net) s in
      let y : k.time ≡ r.0 = ap (λ z. z.time) s in
      (x, rw (x, y) q.0, omega arith, omega arith)

  in_net : (d n t : ℕ) → pc_set c n t ≡ true → 0 < t → t ≤ d → (record { net = n; time = t }) ∈ net_steps c d n
  unfolding net_steps
  in_net d n t e h l =
      in_each (λ u. when (pc_set c n u) (record { net = n; time = u } ∷ [])) (from 1 d) t _ (in_from 1 d t h (omega arith))
      (in_when (pc_set c n t) _ _ e (Memᴰ.head refl))

  -- the list is made gate by gate, whatever lists are known to be the gates' steps
  pub list_by_gates : (f : ℕ → List Step) → ((n : ℕ) → n ∈ gate_order c → f n ≡ net_steps c (depth c) n) → each f (gate_order c) ≡ step_list c
  unfolding step_list
  list_by_gates f h = each_ext f (net_steps c (depth c)) (gate_order c) h

  -- a net has as many steps up to d as its set has elements from 1 to d, and the list has those of all gates
  pub net_length : (d n : ℕ) → length (net_steps c d n) ≡ sum (λ t. val (pc_set c n t)) (from 1 d)
  unfolding net_steps
  net_length d n = length_each _ (from 1 d) ∙ sum_on _ (λ t. val (pc_set c n t)) (from 1 d) (λ t m. one (record { net = n; time = t }) (pc_set c n t))
    where
      one : (k : Step) (b : Bool) → length (when b (k ∷ [])) ≡ val b
      one k true = refl
      one k false = refl

  pub list_length : length (step_list c) ≡ sum (λ n. length (net_steps c (depth c) n)) (gate_order c)
  unfolding step_list
  list_length = length_each (net_steps c (depth c)) (gate_order c)

  -- nothing but steps stands in the list,
  pub list_only : (k : Step) → k ∈ step_list c → IsStep c k
  unfolding step_list
  list_only k m =
      let r = out_each (net_steps c (depth c)) (gate_order c) k m in
      let o = out_net (depth c) r.0 k r.2 in
      record { gated = set_of_gate c k.net k.time o.2 o.1; element = o.1 }

  -- by level, then net, then time, so none stands twice
  pub list_sorted : Sorted (Earlier c) (step_list c)
  unfolding step_list net_steps
  list_sorted = sorted_each (EarlierGate c) (Earlier c) (net_steps c (depth c)) (gate_order c) (λ n m. inner n) across (order_sorted c)
    where
      one : ℕ → ℕ → List Step
      one n t = when (pc_set c n t) (record { net = n; time = t } ∷ [])

      out_one : (n t : ℕ) (k : Step) → k ∈ one n t → (k.net ≡ n) × (k.time ≡ t)
      out_one n t k m = let s = Memᴰ.eq_of_singleton (out_when (pc_set c n t) (record { net = n; time = t } ∷ []) k m).1 in (ap (λ y. y.net) s, ap (λ y. y.time) s)

      inner : (n : ℕ) → Sorted (Earlier c) (each (one n) (from 1 (depth c)))
      inner n = sorted_each ◌<◌ (Earlier c) (one n) (from 1 (depth c)) (λ t m. sorted_when (Earlier c) (pc_set c n t) (record { net = n; time = t } ∷ []) (sorted_one (Earlier c) (record { net = n; time = t }))) single (sorted_from 1 (depth c))
        where
          single : (t u : ℕ) (j k : Step) → t < u → j ∈ one n t → k ∈ one n u → Earlier c j k
          single t u j k h m i = let a = out_one n t j m in let b = out_one n u k i in inr (a.0 ∙ sym b.0, omega (arith, a.1, b.1))

      across : (m n : ℕ) (j k : Step) → EarlierGate c m n → j ∈ net_steps c (depth c) m → k ∈ net_steps c (depth c) n → Earlier c j k
      across m n j k h i l =
          let x = (out_net (depth c) m j i).0 in
          let y = (out_net (depth c) n k l).0 in
          inl (rw (x, y) h)

  never : (k : Step) → Earlier c k k → ⊥
  never k (inl (inl h)) = omega arith
  never k (inl (inr h)) = omega (arith, h.1)
  never k (inr h) = omega (arith, h.1)

  pub list_once : Distinct (step_list c)
  list_once = distinct_of_sorted (Earlier c) (step_list c) never list_sorted

  module _ (free : ¬ Looped c) (pinned : Pinned c) where
    -- every step stands in it,
    pub list_all : (k : Step) → IsStep c k → k ∈ step_list c
    unfolding step_list
    list_all k s =
        in_each (net_steps c (depth c)) (gate_order c) k.net k (in_order c free pinned k.net s.gated)
        (in_net (depth c) k.net k.time s.element (step_time c k s) (omega (arith, element_level c free k.net k.time s.element, level_depth c k.net)))

    reads_lower : (k j : Step) → j ∈ step_reads c k → level c j.net < level c k.net
    unfolding step_reads read_at
    reads_lower k j m =
        let r = out_map (read_at c k.time) (pins c k.net) j m in
        let e : j.net ≡ r.0 = ap (λ x. x.net) r.2 in
        omega (arith, ap (level c) e, level_up c free k.net r.0 r.1)

    -- it is itself a good order,
    pub list_good : GoodOrder c (step_list c)
    list_good = record {
      all = list_all;
      only = list_only;
      once = list_once;
      after = sorted_weaken (Earlier c) (λ k later. ¬ (later ∈ step_reads c k)) (step_list c) (λ k j m n h r. go k j h (reads_lower k j r)) list_sorted;
    }
      where
        go : (k j : Step) → Earlier c k j → level c j.net < level c k.net → ⊥
        go k j (inl (inl h)) l = omega arith
        go k j (inl (inr h)) l = omega (arith, h.0)
        go k j (inr h) l = omega (arith, ap (level c) h.0)

    -- and its length is the number of gate-and-time pairs that have a chain
    pub list_number : Number (Joined c) (length (step_list c))
    list_number = record {
      entries = step_list c;
      once = list_once;
      all = λ k j. list_all k (record { gated = j.gated; element = set_of_chain c j.chain });
      only = λ k m. let s = list_only k m in record { gated = s.gated; chain = chain_of_set c k.net k.time s.element };
      size = refl;
    }

    -- so every good order has that many steps
    pub good_number : (ks : List Step) → GoodOrder c ks → length ks ≡ length (step_list c)
    good_number ks good =
        number_unique (IsStep c) (length ks) (length (step_list c))
        (record { entries = ks; once = good.once; all = good.all; only = good.only; size = refl })
        (record { entries = step_list c; once = list_once; all = list_all; only = list_only; size = refl })
