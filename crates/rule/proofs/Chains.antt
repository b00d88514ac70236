-- t is in the PC-set of a net exactly when a chain of t gates ends there. Assumes nothing.
use mathlib.Core.Path.{◌≡◌, refl, ap}
use mathlib.Core.Bool.{Bool, true, false, ◌&&◌}
use mathlib.Core.List.{List}
use Prim.Native.Nat.{ℕ, zero, suc, ◌-◌, ◌<◌}
use native.Mathlib.Nat.{sub-zero}
use native.Mathlib.Omega.{arith}
use lib.Dec.{leb, leb-zero}
use Rattle.lists.specs.Entries.{some}
use Rattle.lists.proofs.Tests.{some_in, some_out}
use Rattle.lists.proofs.Bools.{not_both}
use Rattle.rule.specs.Net.{Net, net_at, pins, is_source}
use Rattle.rule.specs.Chain.{Chain, start, link, pc_set}
use Rattle.rule.proofs.Nets.{source_pins}

module _ (c : List Net) where
  pub set_of_chain : {n t : ℕ} → Chain c n t → pc_set c n t ≡ true
  unfolding pc_set
  set_of_chain (start e) = e
  set_of_chain (link {n = n} {p = p} {t = t} m r) = some_in (λ q. pc_set c q t) (pins c n) p m (set_of_chain r)

  pub chain_of_set : (n t : ℕ) → pc_set c n t ≡ true → Chain c n t
  unfolding pc_set
  chain_of_set n zero e = start {n = n} e
  chain_of_set n (suc t) e =
      let r = some_out (λ q. pc_set c q t) (pins c n) e in
      link {n = n} {p = r.0} {t = t} r.1 (chain_of_set r.0 t r.2)

  -- an input, a constant and an open pin have {0}
  pub source_set_lem : (n t : ℕ) → is_source (net_at c n) ≡ true → pc_set c n (suc t) ≡ false
  unfolding pc_set
  source_set_lem n t e = ap (some (λ p. pc_set c p t)) (source_pins (net_at c n) e)

  -- a time after 0 is a gate's
  pub set_of_gate : (n t : ℕ) → 0 < t → pc_set c n t ≡ true → is_source (net_at c n) ≡ false
  set_of_gate n zero l e = absurd (omega arith)
  set_of_gate n (suc t) l e = go (is_source (net_at c n)) refl
    where
      go : (b : Bool) → is_source (net_at c n) ≡ b → b ≡ false
      go true q = absurd (not_both (pc_set c n (suc t)) e (source_set_lem n t q))
      go false q = refl

  -- and a gate's set has no 0
  pub gate_set : (n t : ℕ) → is_source (net_at c n) ≡ false → pc_set c n t ≡ true → 0 < t
  unfolding pc_set
  gate_set n zero g e = absurd (not_both (is_source (net_at c n)) e g)
  gate_set n (suc t) g e = omega arith

  -- the union over the pins, each raised by the unit delay
  pub set_reach : (n t : ℕ) → pc_set c n (suc t) ≡ some (λ p. leb 0 t && pc_set c p (t - 0)) (pins c n)
  unfolding pc_set
  set_reach n t = simp (leb-zero, sub-zero)

  -- 0 is in the set of an input, a constant and an open pin, and t + 1 where t is in a pin's
  pub set_start : (n : ℕ) → pc_set c n 0 ≡ is_source (net_at c n)
  unfolding pc_set
  set_start n = refl

  pub set_next : (n t : ℕ) → pc_set c n (suc t) ≡ some (λ p. pc_set c p t) (pins c n)
  unfolding pc_set
  set_next n t = refl
