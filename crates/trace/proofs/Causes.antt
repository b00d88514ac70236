-- Why a net changes: a gate because some pin changed one unit earlier, a net at time 0 because it is an input. By the unit-delay rule, from a
-- settled start. Assumes nothing.
use mathlib.Core.Path.{◌≡◌, refl, sym, ap, ◌∙◌}
use mathlib.Core.Bool.{Bool, true, false, true≢false}
use mathlib.Core.List.{List, map}
use Prim.Native.Nat.{ℕ, zero, suc, ◌<◌}
use native.Mathlib.Nat.{sub-zero}
use native.Mathlib.Decide.{ℕ_discrete}
use lib.ListN.{length}
use Rattle.lists.specs.Entries.{◌∈◌, some}
use Rattle.lists.proofs.Bools.{not_both}
use Rattle.lists.proofs.Tests.{some_out, map_unless}
use Rattle.word.specs.Word.{differ, moved_up}
use Rattle.rule.specs.Net.{Net, input, open_pin, open_value, at_pin, net_at, pins, is_input}
use Rattle.rule.specs.Rule.{net_fn, value, AtRest}
use Rattle.rule.specs.Flag.{changed_at}
use Rattle.rule.specs.Cause.{first_pin}
use Rattle.rule.proofs.Nets.{at_open, at_net, net_open, is_input_lem}
use Rattle.rule.proofs.Values.{wave_at, constant_is, first_stays, timed}
use Rattle.trace.proofs.FirstPins.{first_in}

differ_same : (a b : Bool) → a ≡ b → differ a b ≡ false
differ_same true b e = rw (← e)
differ_same false b e = rw (← e)

same_of : (a b : Bool) → differ a b ≡ false → a ≡ b
same_of true true e = refl
same_of true false e = absurd (true≢false e)
same_of false true e = absurd (true≢false e)
same_of false false e = refl

-- whether what a pin names changed at a time; an open pin never does
abbrev pub pin_changed : (ℕ → Bool) → (ℕ → ℕ → Bool) → ℕ → ℕ → Bool
pin_changed before v p t = at_pin false (λ m. changed_at (before m) (v m) t) p

pub changed_not_open : (before : ℕ → Bool) (v : ℕ → ℕ → Bool) (p t : ℕ) → pin_changed before v p t ≡ true → ¬ (p ≡ open_pin)
changed_not_open before v p t e q = not_both (pin_changed before v p t) e (rw q (at_open false (λ m. changed_at (before m) (v m) t)))

-- p is a pin of n, is a net and not open, and changed at time t
pub record Cause (c : List Net) (before new : ℕ → Bool) (n t p : ℕ) : Type 0 where
  pub pin : p ∈ pins c n
  pub net : ¬ (p ≡ open_pin)
  pub changed : changed_at (before p) (value c before new p) t ≡ true

module _ (c : List Net) (before new : ℕ → Bool) (calm : AtRest c before) where
  abbrev v : ℕ → ℕ → Bool
  v = value c before new

  abbrev wave : ℕ → ℕ → Bool
  wave = wave_at c before new

  open_still : (t : ℕ) → wave open_pin t ≡ open_value
  unfolding wave_at
  open_still zero = at_open open_value before
  open_still (suc t) = constant_is c before new open_pin t open_value (net_open c)

  net_still : (p t : ℕ) → ¬ (p ≡ open_pin) → v p t ≡ moved_up (before p) (v p) t → wave p (suc t) ≡ wave p t
  unfolding wave_at
  net_still p zero q e = e ∙ sym (at_net open_value before p q)
  net_still p (suc t) q e = e

  -- a pin that did not change has the value of one unit earlier
  pin_still : (p t : ℕ) → pin_changed before v p t ≡ false → wave p (suc t) ≡ wave p t
  pin_still p t e = go (ℕ_discrete p open_pin)
    where
      go : Dec (p ≡ open_pin) → wave p (suc t) ≡ wave p t
      go (yes q) = rw q (open_still (suc t) ∙ sym (open_still t))
      go (no q) = net_still p t q (same_of (v p t) (moved_up (before p) (v p) t) (sym (at_net false (λ m. changed_at (before m) (v m) t) p q) ∙ e))

  -- every value, time 0 included, is the net's function of what its pins had one unit earlier
  from_pins : (n t : ℕ) → v n t ≡ net_fn (net_at c n) (new n) (map (λ p. wave p t) (pins c n))
  unfolding wave_at
  from_pins n t = rw sub-zero at ((timed c before new calm).move n t)

  -- a gate none of whose pins changed does not change one unit later
  pub gate_still : (n t : ℕ) → some (λ p. pin_changed before v p t) (pins c n) ≡ false → v n (suc t) ≡ v n t
  gate_still n t e =
      from_pins n (suc t)
      ∙ ap (net_fn (net_at c n) (new n)) (map_unless (λ p. wave p (suc t)) (λ p. wave p t) (λ p. pin_changed before v p t) (pins c n) (λ p. pin_still p t) e)
      ∙ sym (from_pins n t)

  -- so where a net changed at a time after 0, some pin of its gate changed one unit earlier
  pub some_cause : (n t : ℕ) → changed_at (before n) (v n) (suc t) ≡ true → some (λ p. pin_changed before v p t) (pins c n) ≡ true
  some_cause n t e = go (some (λ p. pin_changed before v p t) (pins c n)) refl
    where
      go : (b : Bool) → some (λ p. pin_changed before v p t) (pins c n) ≡ b → b ≡ true
      go true q = refl
      go false q = absurd (not_both (changed_at (before n) (v n) (suc t)) e (differ_same (v n (suc t)) (v n t) (gate_still n t q)))

  cause_of : (n t p : ℕ) → p ∈ pins c n → pin_changed before v p t ≡ true → Cause c before new n t p
  cause_of n t p m e =
      let q = changed_not_open before v p t e in
      record { pin = m; net = q; changed = sym (at_net false (λ m. changed_at (before m) (v m) t) p q) ∙ e }

  pub cause_exists : (n t : ℕ) → changed_at (before n) (v n) (suc t) ≡ true → (p : ℕ) × Cause c before new n t p
  cause_exists n t e = let r = some_out (λ p. pin_changed before v p t) (pins c n) (some_cause n t e) in (r.0, cause_of n t r.0 r.1 r.2)

  -- "the gate asks the first pin that changed one unit earlier": there is one
  pub first_cause : (n t : ℕ) → changed_at (before n) (v n) (suc t) ≡ true → Cause c before new n t (first_pin (λ p. pin_changed before v p t) (pins c n))
  first_cause n t e = let r = first_in (λ p. pin_changed before v p t) (pins c n) (some_cause n t e) in cause_of n t _ r.0 r.1

  -- "until an input at time 0 is reached": what changes at time 0 is an input
  pub first_is_input : (n : ℕ) → n < length c → changed_at (before n) (v n) 0 ≡ true → net_at c n ≡ input
  first_is_input n l e = go (is_input (net_at c n)) refl
    where
      go : (b : Bool) → is_input (net_at c n) ≡ b → net_at c n ≡ input
      go true q = is_input_lem (net_at c n) q
      go false q =
          let still = first_stays c before new calm n l (λ i. absurd (not_both (is_input (net_at c n)) (ap is_input i) q)) in
          absurd (not_both (changed_at (before n) (v n) 0) e (differ_same (v n 0) (before n) still))
