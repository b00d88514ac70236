-- An array made by `array::from_fn`, of a closure that leaves what it captures as it is. Assumes nothing.
use Rattle.std.proofs.Common.{◌≡◌, ℕ, zero, suc, ◌+◌, ◌<◌, ◌≤◌, List, get_or, refl, ap, sym, ◌∙◌, subst, arith}
use native.Mathlib.Decide.{dec_lt}
use denote.Param.Members.{Mut}
use Rattle.std.specs.Fn.{Called}
use Rattle.std.specs.Array.{IsFromFnResult, IsFromFnResultFrom}
use Rattle.lists.specs.Listed.{listed}
use Rattle.lists.proofs.Listed.{is_listed}

module _ {F B : Type 0} (g : Mut F (ℕ × Unit {0}) B) (f : F) (h : ℕ → B)
    (same : (i : ℕ) (r : B) (q : F) → Called g f (i, tt) r q → (q ≡ f) × (r ≡ h i)) where
  made_from : (ys : List B) (p : F) (i n : ℕ) → p ≡ f → IsFromFnResultFrom g p ys i n → (k : ℕ) (d : B) → i ≤ k → k < i + n → get_or ys k d ≡ h k
  made_from ys p i zero e m k d a b = absurd (omega arith)
  made_from ys p i (suc n) e m k d a b =
      let s = same i m.1 m.0 (subst (λ (x : F). Called g x (i, tt) m.1 m.0) e m.3) in
      at (dec_lt i k) s.1 (λ l. made_from ys m.0 (i + 1) n s.0 m.4 k d (omega arith) (omega arith))
    where
      at : Dec (i < k) → m.1 ≡ h i → (i < k → get_or ys k d ≡ h k) → get_or ys k d ≡ h k
      at (yes l) own later = later l
      at (no l) own later = let q : k ≡ i = omega arith in ap (λ x. get_or ys x d) q ∙ m.2.1 d ∙ own ∙ ap h (sym q)

  -- it is the list of what the closure gives
  pub from_fn_listed : (ys : List B) (n : ℕ) (d : B) → IsFromFnResult g f ys n → ys ≡ listed h n
  from_fn_listed ys n d m = is_listed h n d ys m.long (λ i l. made_from ys f 0 n refl m.each i d (omega arith) (omega arith))
