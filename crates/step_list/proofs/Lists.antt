-- The step list in two arrays: one step more, a net's steps, the gates' steps, and the room that they take. Assumes nothing.
use mathlib.Core.Path.{◌≡◌, refl, sym, ap, ◌∙◌, subst}
use mathlib.Core.Bool.{true, false}
use mathlib.Core.List.{List, [], ◌∷◌, ◌++◌, append-nil, append_assoc}
use Prim.Native.Nat.{ℕ, zero, suc, ◌+◌, ◌-◌, ◌≤◌, ◌<◌}
use native.Mathlib.Nat.{add-zero, add-suc}
use native.Mathlib.Numerals.{add-one}
use native.Mathlib.Omega.{arith}
use lib.ListN.{length, get_or, set, length-append, get_or-append}
use lib.Seq.{get_or-append_seam}
use Rattle.lists.specs.Entries.{each, when, from}
use Rattle.lists.specs.Filled.{filled}
use Rattle.lists.proofs.Joined.{from_more, each_append}
use Rattle.lists.proofs.Listed.{listed_none, listed_more, listed_self, listed_ext}
use Rattle.lists.proofs.Rooms.{fills_none, fills_more, fills_at}
use Rattle.word.specs.Word.{bit}
use Rattle.word.proofs.Sets.{First}
use Rattle.rule.specs.Steps.{Step, no_step, step_at}
use Rattle.step_list.specs.Inner.Listing.{time_in, times_in, steps_in, gates_in, Holds, Adds, numbered_step, steps_named}

-- a list that is the same is held as well
pub hold_same : {ks js : List Step} {nets₀ times₀ nets times : List ℕ} {n : ℕ} → ks ≡ js → Holds ks nets₀ times₀ nets times n → Holds js nets₀ times₀ nets times n
hold_same {ks} {js} {nets₀} {times₀} {nets} {times} {n} e h = subst (λ xs. Holds xs nets₀ times₀ nets times n) e h

-- One step more

pub hold_none : (nets times : List ℕ) → Holds [] nets times nets times 0
hold_none nets times = record { size = refl; nets_are = fills_none 0 _ nets; times_are = fills_none 0 _ times }

step_early : (ks : List Step) (k : Step) (e : ℕ) → e < length ks → step_at ks e ≡ step_at (ks ++ (k ∷ [])) e
step_early ks k e l = sym (get_or-append ks (k ∷ []) no_step e l)

module _ (ks : List Step) (nets₀ times₀ nets times : List ℕ) (n : ℕ) (holds : Holds ks nets₀ times₀ nets times n) where
  pub hold_put : (k : Step) → n < length nets₀ → n < length times₀ → Holds (ks ++ (k ∷ [])) nets₀ times₀ (set nets n k.net) (set times n k.time) (n + 1)
  hold_put k ln lt =
      let e = holds.size in
      let more : length (ks ++ (k ∷ [])) ≡ n + 1 = length-append ks (k ∷ []) ∙ ap (λ m. m + 1) (sym e) in
      record {
        size = sym more;
        nets_are = put (λ j. j.net) nets₀ nets ln holds.nets_are ∙ ap (λ m. filled (λ i. (step_at (ks ++ (k ∷ [])) i).net) m nets₀) (sym more);
        times_are = put (λ j. j.time) times₀ times lt holds.times_are ∙ ap (λ m. filled (λ i. (step_at (ks ++ (k ∷ [])) i).time) m times₀) (sym more);
      }
    where
      put : (part : Step → ℕ) (room xs : List ℕ) → n < length room → xs ≡ filled (λ i. part (step_at ks i)) (length ks) room
          → set xs n (part k) ≡ filled (λ i. part (step_at (ks ++ (k ∷ [])) i)) (n + 1) room
      put part room xs l h =
          ap (λ ys. set ys n (part k)) (h ∙ ap (λ m. filled (λ i. part (step_at ks i)) m room) (sym holds.size))
          ∙ fills_more 0 (λ i. part (step_at ks i)) (λ i. part (step_at (ks ++ (k ∷ [])) i)) n room (part k) l (λ e b. ap part (step_early ks k e (omega (arith, holds.size))))
          (ap part (sym (ap (step_at (ks ++ (k ∷ []))) holds.size ∙ get_or-append_seam ks k [] no_step)))

-- Some steps, and then more

pub holding_none : (nets times : List ℕ) (at : ℕ) → Adds nets times at [] nets times at
holding_none nets times at ks nets₀ times₀ ln lt h = hold_same (sym (append-nil ks)) h

pub holding_more : {nets times nets' times' nets'' times'' : List ℕ} {at mid end : ℕ} (xs ys : List Step)
    → Adds nets times at xs nets' times' mid → Adds nets' times' mid ys nets'' times'' end → Adds nets times at (xs ++ ys) nets'' times'' end
holding_more xs ys f g ks nets₀ times₀ ln lt h = hold_same (append_assoc ks xs ys) (g (ks ++ xs) nets₀ times₀ ln lt (f ks nets₀ times₀ ln lt h))

pub holding_same : {nets times nets' times' : List ℕ} {at end : ℕ} {xs ys : List Step} → xs ≡ ys → Adds nets times at xs nets' times' end → Adds nets times at ys nets' times' end
holding_same e h ks nets₀ times₀ ln lt b = hold_same (ap (λ zs. ks ++ zs) e) (h ks nets₀ times₀ ln lt b)

-- Room: a list that grows

rises : (f : ℕ → ℕ) → ((d : ℕ) → f d ≤ f (suc d)) → (d k : ℕ) → f d ≤ f (d + k)
rises f h d zero = rw (add-zero d) (omega arith)
rises f h d (suc k) = rw (add-suc d k) (omega (arith, rises f h d k, h (d + k)))

-- A net's steps
module _ (w g : ℕ) where
  pub times_none : times_in w g 0 ≡ []
  unfolding times_in
  times_none = refl

  times_suc : (d : ℕ) → times_in w g (suc d) ≡ times_in w g d ++ time_in w g (suc d)
  unfolding times_in
  times_suc d =
      let x : 1 + d ≡ suc d = omega arith in
      ap (each (time_in w g)) (from_more 1 d) ∙ each_append (time_in w g) (from 1 d) ((1 + d) ∷ []) ∙ rw (append-nil (time_in w g (1 + d)), x)

  -- with an element, and past times that are none
  pub times_more : (t : ℕ) → 0 < t → bit w t ≡ true → times_in w g (t - 1) ++ (record { net = g; time = t } ∷ []) ≡ times_in w g t
  times_more t l e =
      let x : suc (t - 1) ≡ t = omega arith in
      ap (λ ks. times_in w g (t - 1) ++ ks) (sym (ap (λ b. when b (record { net = g; time = t } ∷ [])) e))
      ∙ subst (λ u. times_in w g (t - 1) ++ time_in w g u ≡ times_in w g u) x (sym (times_suc (t - 1)))

  times_still : (d k : ℕ) → ((u : ℕ) → d < u → u ≤ d + k → bit w u ≡ false) → times_in w g d ≡ times_in w g (d + k)
  times_still d zero h = ap (times_in w g) (sym (add-zero d))
  times_still d (suc k) h =
      times_still d k (λ u a b. h u a (omega arith))
      ∙ sym (append-nil (times_in w g (d + k)))
      ∙ ap (λ ks. times_in w g (d + k) ++ ks) (sym (ap (λ b. when b (record { net = g; time = suc (d + k) } ∷ [])) (h (suc (d + k)) (omega arith) (omega arith))))
      ∙ sym (times_suc (d + k)) ∙ ap (times_in w g) (sym (add-suc d k))

  pub times_first : (from t : ℕ) → 0 < from → First (bit w) from 64 t → times_in w g (from - 1) ≡ times_in w g (t - 1)
  times_first from t l f =
      let e : from - 1 + (t - from) ≡ t - 1 = omega (arith, f.after) in
      times_still (from - 1) (t - from) (λ u a b. f.none_ahead u (omega arith) (omega (arith, f.after))) ∙ ap (times_in w g) e

  pub times_room : (t : ℕ) → 0 < t → t ≤ 63 → bit w t ≡ true → length (times_in w g (t - 1)) + 1 ≤ length (times_in w g 63)
  times_room t l h b =
      let y : t + (63 - t) ≡ 63 = omega arith in
      let a = rises (λ d. length (times_in w g d)) (λ d. omega (arith, ap length (times_suc d) ∙ length-append (times_in w g d) (time_in w g (suc d)))) t (63 - t) in
      omega (arith, rw y at a, ap length (times_more t l b), length-append (times_in w g (t - 1)) (record { net = g; time = t } ∷ []))

-- The gates' steps
module _ (sets order : List ℕ) where
  abbrev gate : ℕ → ℕ
  gate i = get_or order i 0

  abbrev its : ℕ → List Step
  its g = times_in (get_or sets g 0) g 63

  pub steps_none : steps_in sets (gates_in order 0) ≡ []
  unfolding steps_in
  steps_none = rw (listed_none gate)

  pub steps_more : (i : ℕ) → steps_in sets (gates_in order i) ++ its (gate i) ≡ steps_in sets (gates_in order (i + 1))
  unfolding steps_in
  steps_more i = sym (ap (each its) (listed_more gate i) ∙ each_append its (gates_in order i) (gate i ∷ []) ∙ rw (append-nil (its (gate i))))

  pub steps_room : (i n : ℕ) → i < n → length (steps_in sets (gates_in order i)) + length (its (gate i)) ≤ length (steps_in sets (gates_in order n))
  steps_room i n l =
      let y : i + 1 + (n - (i + 1)) ≡ n = omega arith in
      let a = rises (λ d. length (steps_in sets (gates_in order d))) (λ d. rw (← add-one d) (omega (arith, sym (ap length (steps_more d)) ∙ length-append (steps_in sets (gates_in order d)) (its (gate d))))) (i + 1) (n - (i + 1)) in
      let b = ap length (steps_more i) in
      omega (arith, rw y at a, length-append (steps_in sets (gates_in order i)) (its (gate i)))

-- the steps that two arrays name are those that they hold
module _ {ks : List Step} {nets₀ times₀ nets times : List ℕ} {n : ℕ} (h : Holds ks nets₀ times₀ nets times n) (ln : length nets₀ ≡ 4096) (lt : length times₀ ≡ 4096) (few : n ≤ 4096) where
  part : (of : Step → ℕ) (old xs : List ℕ) → length old ≡ 4096 → xs ≡ filled (λ i. of (step_at ks i)) (length ks) old → (e : ℕ) → e < length ks → get_or xs e 0 ≡ of (step_at ks e)
  part of old xs q z e l = ap (λ x. get_or x e 0) z ∙ fills_at 0 (λ i. of (step_at ks i)) (length ks) e old (omega (arith, h.size)) l

  pub held_net : (e : ℕ) → e < length ks → get_or nets e 0 ≡ (step_at ks e).net
  held_net = part (λ k. k.net) nets₀ nets ln h.nets_are

  pub held_time : (e : ℕ) → e < length ks → get_or times e 0 ≡ (step_at ks e).time
  held_time = part (λ k. k.time) times₀ times lt h.times_are

  pub held_steps : steps_named nets times n ≡ ks
  held_steps =
      ap (steps_named nets times) h.size
      ∙ listed_ext (numbered_step nets times) (step_at ks) (length ks) (λ e l i. record { net = held_net e l i; time = held_time e l i })
      ∙ sym (listed_self ks _)
