-- The steps of a card, done in any good order: each step, when it is reached, gives the rule's value, and the whole run leaves the
-- rule's history. From a settled start. Assumes nothing.
use mathlib.Core.Path.{◌≡◌, refl, sym, ap, ◌∙◌}
use mathlib.Core.Bool.{Bool, true, false}
use mathlib.Core.List.{List, ◌∷◌, ◌++◌, map, map-map}
use mathlib.Core.Logic.{◌⊎◌, inl, inr, ⊎_elim}
use Prim.Native.Nat.{ℕ, zero, suc, ◌<◌}
use native.Mathlib.Omega.{arith}
use native.Mathlib.Decide.{ℕ_discrete}
use lib.Dec.{eqb}
use lib.ListN.{take}
use borrow.Author.Tests.{eq-eqb, eqb-true}
use Rattle.lists.specs.Entries.{◌∈◌}
use Rattle.lists.proofs.Bools.{and_both, and_make}
use Rattle.lists.proofs.Tests.{map_ext}
use Rattle.word.specs.Times.{greatest, no_time, zero_in}
use Rattle.word.proofs.Sets.{zero_in_lem}
use Rattle.rule.specs.Net.{Net, net_at, pins}
use Rattle.rule.specs.Rule.{net_fn, value, AtRest}
use Rattle.rule.specs.Chain.{pc_set}
use Rattle.rule.specs.Run.{made, run, ready}
use Rattle.rule.specs.Steps.{Step, same_step, IsStep, read_at, step_reads, step_fn, GoodOrder}
use Rattle.rule.proofs.Chains.{set_of_gate, gate_set}
use Rattle.rule.proofs.Values.{gate_given, read_is}
use Rattle.rule.proofs.PinReads.{read_pin, read_below}
use Rattle.rule.proofs.Runs.{ready_of_pairs, ready_take, take_in, reached_right, run_right}

-- Names of variables

pub same_one : (j k : Step) → same_step j k ≡ true → j ≡ k
same_one j k e =
    let o = and_both (eqb j.net k.net) (eqb j.time k.time) e in
    λ i. record { net = eqb-true j.net k.net o.0 i; time = eqb-true j.time k.time o.1 i }

pub same_self : (k : Step) → same_step k k ≡ true
same_self k = and_make _ _ (eq-eqb k.net k.net refl) (eq-eqb k.time k.time refl)

-- the variables that are there ahead of all steps: those of time 0
abbrev pub ahead : Step → Bool
ahead k = eqb k.time 0

module _ (c : List Net) where
  -- a step's time is 1 or more, and what it reads is earlier
  pub step_time : (k : Step) → IsStep c k → 0 < k.time
  step_time k s = gate_set c k.net k.time s.gated s.element

  read_earlier : (k j : Step) → IsStep c k → j ∈ step_reads c k → j.time < k.time
  read_earlier k j s m =
      let r = read_pin c k j m in
      omega (arith, ap (λ x. x.time) r.2, read_below c k.time r.0 (step_time k s))

  -- a variable that is read is there from the start or is a step's
  pub read_there : (t p : ℕ) → 0 < t → (ahead (read_at c t p) ≡ true) ⊎ IsStep c (read_at c t p)
  unfolding read_at
  read_there t p later = go (ℕ_discrete g 0)
    where
      g : ℕ
      g = greatest (zero_in (pc_set c p)) t no_time

      element : (u : ℕ) → 0 < u → zero_in (pc_set c p) u ≡ true → pc_set c p u ≡ true
      element zero l e = absurd (omega arith)
      element (suc u) l e = e

      go : Dec (g ≡ 0) → (eqb g 0 ≡ true) ⊎ IsStep c (record { net = p; time = g })
      go (yes e) = inl (eq-eqb g 0 e)
      go (no e) =
          let l : 0 < g = omega arith in
          let x = element g l (zero_in_lem (pc_set c p) t no_time later) in
          inr (record { gated = set_of_gate c p g l x; element = x })

  -- a good order is ready: no step is reached before what it reads is there
  pub good_ready : (ks : List Step) → GoodOrder c ks → ready same_step (step_reads c) ahead ks ≡ true
  good_ready ks good =
      ready_of_pairs same_step (step_reads c) same_one same_self ahead ks full (λ k m r. let l = read_earlier k k (good.only k m) r in omega arith) good.after
    where
      full : (k j : Step) → k ∈ ks → j ∈ step_reads c k → (ahead j ≡ true) ⊎ (j ∈ ks)
      full k j m r =
          let o = read_pin c k j r in
          rw o.2 (⊎_elim (λ e. inl e) (λ s. inr (good.all _ s)) (read_there k.time o.0 (step_time k (good.only k m))))

  module _ (before new : ℕ → Bool) (calm : AtRest c before) where
    -- the proper value of a variable
    abbrev pub proper : Step → Bool
    proper k = value c before new k.net k.time

    -- a step's function of the proper values that it reads is its own
    pub step_meets : (k : Step) → IsStep c k → proper k ≡ step_fn c k (map proper (step_reads c k))
    unfolding step_reads read_at step_fn value
    step_meets k s = go k.time (step_time k s)
      where
        w : Net
        w = net_at c k.net

        pin : (t p : ℕ) → value c before new p t ≡ proper (read_at c (suc t) p)
        pin t p = sym (read_is c before new calm p t)

        go : (t : ℕ) → 0 < t → value c before new k.net t ≡ net_fn w false (map proper (map (read_at c t) (pins c k.net)))
        go zero l = absurd (omega arith)
        go (suc t) l =
            gate_given w (new k.net) false _ s.gated
            ∙ ap (net_fn w false) (map_ext _ _ (pins c k.net) (pin t) ∙ sym (map-map proper (read_at c (suc t)) (pins c k.net)))

    -- from variables that hold the values at time 0
    module _ (s : Step → Bool) (start : (k : Step) → ahead k ≡ true → s k ≡ proper k) (ks : List Step) (good : GoodOrder c ks) where
      -- "each step gives its proper value when it is reached"
      pub reached : (xs : List Step) (k : Step) (ys : List Step) → ks ≡ xs ++ k ∷ ys
          → made same_step (step_reads c) (step_fn c) (run same_step (step_reads c) (step_fn c) s xs) k ≡ proper k
      reached xs k ys e =
          reached_right same_step (step_reads c) same_one same_self (step_fn c) proper (IsStep c) step_meets ahead s xs k ys
          (λ j m. good.only j (rw e m)) start (rw e at (good_ready ks good))

      -- along the first m entries each step done has its value,
      pub left_by_first : (m : ℕ) (k : Step) → k ∈ take m ks → run same_step (step_reads c) (step_fn c) s (take m ks) k ≡ proper k
      left_by_first m k i =
          run_right same_step (step_reads c) same_one same_self (step_fn c) proper (IsStep c) step_meets ahead s (take m ks)
          (λ j h. good.only j (take_in m ks j h)) start (ready_take same_step (step_reads c) ahead ks m (good_ready ks good)) k (inr i)

      left_all : (k : Step) → (ahead k ≡ true) ⊎ IsStep c k → run same_step (step_reads c) (step_fn c) s ks k ≡ proper k
      left_all k h =
          run_right same_step (step_reads c) same_one same_self (step_fn c) proper (IsStep c) step_meets ahead s ks
          (λ j m. good.only j m) start (good_ready ks good) k (⊎_elim (λ e. inl e) (λ q. inr (good.all k q)) h)

      -- and "the whole run ends with the rule's history": a net's value at t stands in the variable of its largest element not above t
      pub left_history : (n t : ℕ) → run same_step (step_reads c) (step_fn c) s ks (read_at c (suc t) n) ≡ value c before new n t
      left_history n t = left_all (read_at c (suc t) n) (read_there (suc t) n (omega arith)) ∙ read n t
        where
          read : (n t : ℕ) → proper (read_at c (suc t) n) ≡ value c before new n t
          read n t = unfold read_at in read_is c before new calm n t
