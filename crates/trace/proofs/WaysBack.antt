-- The way back from a change, by the unit-delay rule from a settled start: every net on it changed at its time because of the next, and the
-- last is an input that changed at time 0. Assumes nothing.
use mathlib.Core.Path.{◌≡◌, sym, subst}
use mathlib.Core.Bool.{Bool, true}
use mathlib.Core.List.{List}
use mathlib.Core.Logic.{⊎_elim}
use Prim.Native.Nat.{ℕ, zero, suc, ◌-◌, ◌≤◌, ◌<◌}
use native.Mathlib.Nat.{sub-zero}
use native.Mathlib.Omega.{arith}
use lib.ListN.{length, get_or}
use Rattle.rule.specs.Net.{Net, input, net_at, pins, Named}
use Rattle.rule.specs.Rule.{value, AtRest}
use Rattle.rule.specs.Flag.{changed_at}
use Rattle.rule.specs.Cause.{first_pin, causes}
use Rattle.rule.proofs.Ways.{way_first, way_next, way_later}
use Rattle.trace.proofs.Causes.{pin_changed, Cause, first_cause, first_is_input}

-- entry i of the way back from net n at time t
abbrev pub entry : List Net → (ℕ → Bool) → (ℕ → Bool) → ℕ → ℕ → ℕ → ℕ
entry c before new n t i = get_or (causes c (pin_changed before (value c before new)) n t) i 0

-- a net of the card that changed at a time
pub record Changed (c : List Net) (before new : ℕ → Bool) (n t : ℕ) : Type 0 where
  pub listed : n < length c
  pub changed : changed_at (before n) (value c before new n) t ≡ true

module _ (c : List Net) (before new : ℕ → Bool) (calm : AtRest c before) (named : Named c) where
  abbrev v : ℕ → ℕ → Bool
  v = value c before new

  -- the first pin that changed is one again
  pub cause_changed : (n t : ℕ) → Changed c before new n (suc t) → Changed c before new (first_pin (λ p. pin_changed before v p t) (pins c n)) t
  cause_changed n t h =
      let k = first_cause c before new calm n t h.changed in
      record { listed = ⊎_elim (λ l. l) (λ q. absurd (k.net q)) (named n _ k.pin); changed = k.changed }

  pub entry_changed : (n t i : ℕ) → i ≤ t → Changed c before new n t → Changed c before new (entry c before new n t i) (t - i)
  entry_changed n t zero l h = rw (sub-zero, way_first c (pin_changed before v) n t 0) h
  entry_changed n zero (suc i) l h = absurd (omega arith)
  entry_changed n (suc t) (suc i) l h =
      let e : t - i ≡ suc t - suc i = omega arith in
      rw (way_later c (pin_changed before v) n t i 0)
      (subst (Changed c before new _) e (entry_changed (first_pin (λ p. pin_changed before v p t) (pins c n)) t i (omega arith) (cause_changed n t h)))

  -- consecutive entries
  pub entry_cause : (n t i : ℕ) → i < t → Changed c before new n t → Cause c before new (entry c before new n t i) (t - suc i) (entry c before new n t (suc i))
  entry_cause n t i l h =
      let e : t - i ≡ suc (t - suc i) = omega arith in
      let k = subst (Changed c before new (entry c before new n t i)) e (entry_changed n t i (omega arith) h) in
      subst (Cause c before new (entry c before new n t i) (t - suc i)) (sym (way_next c (pin_changed before v) n t i 0 l)) (first_cause c before new calm (entry c before new n t i) (t - suc i) k.changed)

  -- "until an input at time 0 is reached"
  pub last_changed : (n t : ℕ) → Changed c before new n t → Changed c before new (entry c before new n t t) 0
  last_changed n t h = let e : t - t ≡ 0 = omega arith in subst (Changed c before new (entry c before new n t t)) e (entry_changed n t t (omega arith) h)

  pub last_is_input : (n t : ℕ) → Changed c before new n t → net_at c (entry c before new n t t) ≡ input
  last_is_input n t h = let k = last_changed n t h in first_is_input c before new calm (entry c before new n t t) k.listed k.changed
