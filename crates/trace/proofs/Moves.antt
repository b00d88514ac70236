-- Whether a net changed at a time, as the arrays have it. Assumes nothing.
use mathlib.Core.Path.{◌≡◌, refl, sym, ap, ap₂, ◌∙◌}
use mathlib.Core.Bool.{Bool, false, not, beq}
use mathlib.Core.List.{List}
use Prim.Native.Nat.{ℕ, zero, suc, ◌-◌, ◌<◌}
use native.Mathlib.Omega.{arith}
use lib.ListN.{get_or}
use Rattle.word.specs.Word.{bit, differ}
use Rattle.rule.specs.Net.{open_pin}
use Rattle.rule.specs.Flag.{changed_at}
use Rattle.rule.proofs.Nets.{at_open, at_net, not_open}
use Rattle.trace.specs.Inner.Caused.{moved_at}
use Rattle.history.proofs.Changes.{differ_is}

-- at time 0 a change is from the before value, later from one unit earlier
pub changed_first : (b : Bool) (f : ℕ → Bool) (t : ℕ) (x y : Bool) → t ≡ 0 → x ≡ f 0 → y ≡ b → not (beq x y) ≡ changed_at b f t
changed_first b f t x y z ex ey = differ_is x y ∙ ap₂ differ ex ey ∙ sym (ap (changed_at b f) z)

pub changed_later : (b : Bool) (f : ℕ → Bool) (t : ℕ) (x y : Bool) → ¬ (t ≡ 0) → x ≡ f t → y ≡ f (t - 1) → not (beq x y) ≡ changed_at b f t
changed_later b f zero x y z ex ey = absurd (z refl)
changed_later b f (suc t) x y z ex ey = let e : suc t - 1 ≡ t = omega arith in differ_is x y ∙ ap₂ differ ex (ey ∙ ap f e)

module _ (before : List Bool) (words : List ℕ) where
  -- of a net
  pub moved_net : (n t : ℕ) → n < 65535 → changed_at (get_or before n false) (bit (get_or words n 0)) t ≡ moved_at before words n t
  moved_net n t l = sym (at_net false (λ m. changed_at (get_or before m false) (bit (get_or words m 0)) t) n (not_open n l))

  -- an open pin never changes
  pub moved_open : (p t : ℕ) → p ≡ open_pin → moved_at before words p t ≡ false
  moved_open p t e = rw e (at_open false (λ m. changed_at (get_or before m false) (bit (get_or words m 0)) t))
