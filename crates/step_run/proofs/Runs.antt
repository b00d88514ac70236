-- Steps one after another, with their count: one step more, the count, and what a run needs of each step. Assumes nothing.
use mathlib.Core.Path.{◌≡◌, refl, sym, ap, subst, ◌∙◌}
use mathlib.Core.List.{List, [], ◌∷◌, ◌++◌}
use Prim.Native.Nat.{ℕ, ◌+◌, ◌<◌, ◌≤◌}
use native.Mathlib.Omega.{arith}
use lib.ListN.{length}
use Rattle.lists.specs.Entries.{◌∈◌}
use Rattle.lists.specs.Listed.{listed}
use Rattle.lists.proofs.Listed.{listed_none, listed_more, in_listed}
use Rattle.rule.specs.Steps.{Step, IsStep, step_list}
use Rattle.rule.proofs.StepLists.{list_only}
use Rattle.card_wiring.specs.Inner.Wires.{Gates}
use Rattle.card.specs.declared.Session.{Session}
use Rattle.card.specs.Session.{card_of}
use Rattle.card.specs.Held.{HasCard}
use Rattle.session.proofs.Held.{gate_fits}
use Rattle.step_vars.specs.Variables.{step_in}
use Rattle.step_vars.specs.Inner.Variables.{StepTime}
use Rattle.step_list.specs.Inner.Listing.{steps_in, gates_in, Holds, steps_named}
use Rattle.step_list.proofs.Cards.{list_held, list_few, step_low}
use Rattle.step_list.proofs.Lists.{held_steps}
use Rattle.step_run.specs.Runs.{Ran, ran_from, ran}
use Rattle.step_run.specs.Inner.Runs.{Doable}

-- what a run needs of step i
pub doable_at : (types counts : List ℕ) (f : ℕ → Step) (n i g t : ℕ) → Doable types counts (listed f n) → i < n → g ≡ (f i).net → t ≡ (f i).time
    → Gates types counts g × StepTime t
doable_at types counts f n i g t h l eg et = rw (eg, et) (h (f i) (in_listed f n i l))

module _ (types counts places sets : List ℕ) where
  abbrev after : Ran → List Step → Ran
  after = ran_from types counts places sets

  after_append : (r : Ran) (xs ys : List Step) → after r (xs ++ ys) ≡ after (after r xs) ys
  after_append r [] ys = refl
  after_append r (k ∷ xs) ys = after_append (record { words = step_in types counts places sets r.words k; count = r.count + 1 }) xs ys

  after_count : (r : Ran) (ks : List Step) → (after r ks).count ≡ r.count + length ks
  after_count r [] = omega arith
  after_count r (k ∷ ks) = after_count (record { words = step_in types counts places sets r.words k; count = r.count + 1 }) ks ∙ omega arith

  module _ (words : List ℕ) where
    -- the count of a run is the number of its steps
    pub ran_count : (ks : List Step) → (ran types counts places sets words ks).count ≡ length ks
    unfolding ran
    ran_count ks = after_count (record { words = words; count = 0 }) ks ∙ omega arith

    pub ran_none : (f : ℕ → Step) → record { words = words; count = 0 } ≡ ran types counts places sets words (listed f 0)
    unfolding ran
    ran_none f = rw (listed_none f)

    pub ran_more : (f : ℕ → Step) (i : ℕ) (vars next : List ℕ) (g t : ℕ) → record { words = vars; count = i } ≡ ran types counts places sets words (listed f i)
        → g ≡ (f i).net → t ≡ (f i).time → next ≡ step_in types counts places sets vars (record { net = g; time = t })
        → record { words = next; count = i + 1 } ≡ ran types counts places sets words (listed f (i + 1))
    unfolding ran
    ran_more f i vars next g t e eg et h =
        let k : ◌≡◌ {A = Step} (record { net = g; time = t }) (f i) = λ j. record { net = eg j; time = et j } in
        ap (λ ws. record { words = ws; count = i + 1 }) (h ∙ ap (step_in types counts places sets vars) k)
        ∙ ap (λ (r : Ran). after r (f i ∷ [])) e
        ∙ sym (after_append (record { words = words; count = 0 }) (listed f i) (f i ∷ []))
        ∙ ap (after (record { words = words; count = 0 })) (sym (listed_more f i))

-- the steps of a card may be done
pub steps_doable : (s : Session) (h : HasCard s) (ks : List Step) → ((k : Step) → k ∈ ks → IsStep (card_of s) k) → Doable s.types s.counts ks
steps_doable s h ks all k m = let i = all k m in let l = step_low s h k i in (gate_fits s h k.net i.gated, record { late = l.1; low = l.2 })

-- the list that `put_list` leaves in two arrays of 4,096 places is the card's, and may be done
pub record ListReady (s : Session) (nets times : List ℕ) (total : ℕ) : Type 0 where
  pub few : total ≤ 4096
  pub named : steps_named nets times total ≡ step_list (card_of s)
  pub doable : Doable s.types s.counts (steps_named nets times total)

pub list_ready : (s : Session) (h : HasCard s) {nets₀ times₀ nets times : List ℕ} {total : ℕ} → Holds (steps_in s.sets (gates_in s.order s.gates)) nets₀ times₀ nets times total
    → length nets₀ ≡ 4096 → length times₀ ≡ 4096 → ListReady s nets times total
list_ready s h held ln lt =
    let few = list_few s h held in
    let named = held_steps (list_held s h held) ln lt few in
    record { few = few; named = named; doable = subst (Doable s.types s.counts) (sym named) (steps_doable s h (step_list (card_of s)) (list_only (card_of s))) }
