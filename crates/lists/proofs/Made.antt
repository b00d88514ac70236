-- A list that `array::from_fn` makes, from a closure that keeps what it has captured: it is listed by what the closure gives. Assumes nothing.
use mathlib.Core.Path.{◌≡◌, refl, ◌∙◌, subst}
use mathlib.Core.List.{List}
use Prim.Native.Nat.{ℕ, zero, suc, ◌+◌, ◌<◌}
use native.Mathlib.Nat.{zero-add}
use native.Mathlib.Omega.{arith}
use denote.Param.Members.{Mut, Called}
use lib.ListN.{get_or}
use Rattle.std.specs.Array.{IsFromFnResultFrom, IsFromFnResult}
use Rattle.lists.specs.Listed.{listed}
use Rattle.lists.proofs.Listed.{is_listed}

-- each call at i gives h i, and keeps what f has captured
module _ {F B : Type 0} (g : Mut F (ℕ × Unit {0}) B) (f : F) (h : ℕ → B) (calls : (i : ℕ) (y : B) (q : F) → Called g f (i, tt) y q → (y ≡ h i) × (q ≡ f)) where
  made_at : (ys : List B) (i n : ℕ) (p : F) → p ≡ f → IsFromFnResultFrom g p ys i n → (k : ℕ) → k < n → (d : B) → get_or ys (i + k) d ≡ h (i + k)
  made_at ys i zero p e m k l d = absurd (omega arith)
  made_at ys i (suc n) p e (q, y, at, c, rest) zero l d =
      let x : i + 0 ≡ i = omega arith in
      rw x (at.1 d ∙ (calls i y q (subst (λ r. Called g r (i, tt) y q) e c)).0)
  made_at ys i (suc n) p e (q, y, at, c, rest) (suc k) l d =
      let x : (i + 1) + k ≡ i + suc k = omega arith in
      rw x at (made_at ys (i + 1) n q ((calls i y q (subst (λ r. Called g r (i, tt) y q) e c)).1) rest k (omega arith) d)

  pub made_listed : (ys : List B) (n : ℕ) → IsFromFnResult g f ys n → ys ≡ listed h n
  made_listed ys n m = is_listed h n (h 0) ys m.long (λ i l. rw zero-add at (made_at ys 0 n f refl m.each i l (h 0)))
