-- A session that holds a card: the list that the arrays mean is the card's step list, and where its steps lie. Assumes nothing.
use mathlib.Core.Path.{◌≡◌, sym, ap, ◌∙◌}
use mathlib.Core.List.{List, [], ◌∷◌, ◌++◌, append-nil}
use Prim.Native.Nat.{ℕ, zero, suc, ◌+◌, ◌-◌, ◌≤◌, ◌<◌}
use native.Mathlib.Nat.{add-zero, add-suc}
use native.Mathlib.Omega.{arith}
use lib.ListN.{length, get_or}
use Rattle.lists.specs.Entries.{each, when, from}
use Rattle.lists.proofs.Joined.{out_from, from_more, each_append, each_ext}
use Rattle.word.specs.Word.{bit}
use Rattle.word.proofs.Words.{bit_word}
use Rattle.rule.specs.Net.{Net}
use Rattle.rule.specs.Chain.{pc_set}
use Rattle.rule.specs.Level.{depth}
use Rattle.rule.specs.Steps.{Step, IsStep, net_steps, step_list}
use Rattle.rule.proofs.Nets.{gate_listed}
use Rattle.rule.proofs.Depths.{level_depth, set_level, element_level}
use Rattle.rule.proofs.GateOrders.{out_order}
use Rattle.rule.proofs.StepRuns.{step_time}
use Rattle.rule.proofs.StepLists.{list_by_gates}
use Rattle.card.specs.declared.Session.{Session}
use Rattle.card.specs.Session.{card_of}
use Rattle.card.specs.Held.{HasCard}
use Rattle.card.proofs.Kept.{card_fits, order_back, order_fits, card_depth, card_level, card_steps, card_sets}
use Rattle.step_list.specs.Inner.Listing.{time_in, times_in, steps_in, gates_in, Holds}
use Rattle.step_list.proofs.Lists.{hold_same}

-- lists of nothing past d
each_ends : {A : Type 0} (f : ℕ → List A) (d k : ℕ) → ((t : ℕ) → d < t → f t ≡ []) → each f (from 1 (d + k)) ≡ each f (from 1 d)
each_ends f d zero h = rw (add-zero d)
each_ends f d (suc k) h =
    let x : d < 1 + (d + k) = omega arith in
    rw (add-suc d k)
    (ap (each f) (from_more 1 (d + k)) ∙ each_append f (from 1 (d + k)) ((1 + (d + k)) ∷ []) ∙ ap (λ ys. each f (from 1 (d + k)) ++ (ys ++ [])) (h (1 + (d + k)) x)
    ∙ append-nil (each f (from 1 (d + k))) ∙ each_ends f d k h)

module _ (s : Session) (h : HasCard s) where
  abbrev c : List Net
  c = card_of s

  few : length c ≤ 256
  few = (card_fits s h).fits.few

  -- The step list

  net_steps_lem : (g : ℕ) → g < length c → times_in (get_or s.sets g 0) g 63 ≡ net_steps c (depth c) g
  unfolding times_in net_steps
  net_steps_lem g l =
      let x : depth c + (63 - depth c) ≡ 63 = omega (arith, card_depth s h) in
      each_ext (time_in (get_or s.sets g 0) g) one (from 1 63) (λ t m. ap (λ b. when b (record { net = g; time = t } ∷ [])) (at t (out_from 1 63 t m).1))
      ∙ ap (λ k. each one (from 1 k)) (sym x)
      ∙ each_ends one (depth c) (63 - depth c) (λ t b. ap (λ b. when b (record { net = g; time = t } ∷ [])) (set_level c h.accepted.free g t (omega (arith, level_depth c g))))
    where
      one : ℕ → List Step
      one t = when (pc_set c g t) (record { net = g; time = t } ∷ [])

      at : (t : ℕ) → t < 1 + 63 → bit (get_or s.sets g 0) t ≡ pc_set c g t
      at t b = ap (λ w. bit w t) (card_sets s h g l) ∙ bit_word 64 (pc_set c g) t (omega arith)

  steps_are : steps_in s.sets (gates_in s.order s.gates) ≡ step_list c
  unfolding steps_in
  steps_are =
      ap (each (λ g. times_in (get_or s.sets g 0) g 63)) (order_back s h)
      ∙ list_by_gates c (λ g. times_in (get_or s.sets g 0) g 63) (λ g m. net_steps_lem g (out_order c g m).1)

  -- what the list's filling asks of a card
  pub list_asked : (s.gates ≤ 256) × ((i : ℕ) → get_or s.order i 0 < 256) × (length (steps_in s.sets (gates_in s.order s.gates)) ≤ 4096)
  list_asked = ((order_fits s h).0, (order_fits s h).1, omega (arith, card_steps s h, ap length steps_are))

  -- the list in two arrays is the card's
  module _ {nets₀ times₀ nets times : List ℕ} {total : ℕ} (held : Holds (steps_in s.sets (gates_in s.order s.gates)) nets₀ times₀ nets times total) where
    pub list_held : Holds (step_list c) nets₀ times₀ nets times total
    list_held = hold_same steps_are held

    pub list_total : total ≡ length (step_list c)
    list_total = list_held.size

    pub list_few : total ≤ 4096
    list_few = omega (arith, list_total, card_steps s h)

  -- A step: its net and its time

  pub step_low : (k : Step) → IsStep c k → (k.net < 256) × (0 < k.time) × (k.time < 64)
  step_low k i =
      (omega (arith, few, gate_listed c k.net i.gated), step_time c k i, omega (arith, element_level c h.accepted.free k.net k.time i.element, card_level s h k.net))
