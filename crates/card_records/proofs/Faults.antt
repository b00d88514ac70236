-- A record that is wrong, seen from the bytes at its place: they are as `StopsAt` says, and only then is it read as wrong. Assumes nothing.
use mathlib.Core.Path.{◌≡◌, refl, sym, ap, ap₂, ◌∙◌, subst}
use mathlib.Core.Bool.{true, false}
use mathlib.Core.List.{List}
use Prim.Native.Nat.{ℕ, ◌+◌, ◌*◌, ◌≤◌, ◌<◌}
use native.Mathlib.Omega.{arith}
use lib.ListN.{length, get_or, drop, length-drop}
use lib.Seq.{get_or-drop}
use Rattle.std.specs.Prelude.{Err}
use Rattle.card_records.specs.declared.Fault.{Fault}
use Rattle.card_records.specs.declared.Fault.TheVariants.{NoHead, BadHead, NoBody, BadBody}
use Rattle.card_records.specs.Bytes.{u16_at, kind_fits, body_fits, record_read}
use Rattle.card_records.specs.Scan.{fault_of}
use Rattle.card_records.specs.Stopped.{StopsAt, no_head as stops-no-head, bad_head as stops-bad-head, no_body as stops-no-body, bad_body as stops-bad-body}
use Rattle.card_records.proofs.Found.{FoundAt, no_head, bad_head, no_body, bad_body, found_at, read_as}

module _ (s : List ℕ) (at : ℕ) where
  -- The bytes from there on say what the head and the body say

  u16_on : (i : ℕ) → u16_at (drop at s) i ≡ u16_at s (at + i)
  unfolding u16_at
  u16_on i =
      let x : at + (i + 1) ≡ at + i + 1 = omega arith in
      ap₂ (λ a b. a + 256 * b) (get_or-drop at s i 0) (get_or-drop at s (i + 1) 0 ∙ ap (λ k. get_or s k 0) x)

  u16_here : u16_at (drop at s) 0 ≡ u16_at s at
  u16_here = let x : at + 0 ≡ at = omega arith in u16_on 0 ∙ ap (u16_at s) x

  kind_on : kind_fits (u16_at (drop at s) 2) (u16_at (drop at s) 0) ≡ kind_fits (u16_at s (at + 2)) (u16_at s at)
  kind_on = rw (u16_on 2, u16_here)

  body_on : body_fits (u16_at (drop at s) 2) (u16_at (drop at s) 0) (get_or (drop at s) 4 0) ≡ body_fits (u16_at s (at + 2)) (u16_at s at) (get_or s (at + 4) 0)
  body_on = rw (u16_on 2, u16_here, get_or-drop at s 4 0)

  -- What is read as wrong is wrong

  pub fault_stops : (nets : ℕ) (f : Fault) → record_read s at ≡ Err f → StopsAt (drop at s) nets (fault_of f)
  fault_stops nets f e = go f (subst (FoundAt s at) e (found_at s at))
    where
      go : (f : Fault) → FoundAt s at (Err f) → StopsAt (drop at s) nets (fault_of f)
      go f (no_head h) = stops-no-head (omega (arith, length-drop at s))
      go f (bad_head h k) = stops-bad-head (omega (arith, length-drop at s)) (kind_on ∙ k)
      go f (no_body h k b) = stops-no-body (omega (arith, length-drop at s)) (kind_on ∙ k) (rw u16_here (omega (arith, length-drop at s)))
      go f (bad_body b k v) = stops-bad-body (rw u16_here (omega (arith, length-drop at s))) (kind_on ∙ k) (body_on ∙ v)

  -- And what is wrong is read as that

  pub headless : length (drop at s) < 4 → record_read s at ≡ Err NoHead
  headless h = sym (read_as s at _ _ _ (Err NoHead) refl refl refl (no_head (omega (arith, length-drop at s))))

  pub wrong_head : 4 ≤ length (drop at s) → kind_fits (u16_at (drop at s) 2) (u16_at (drop at s) 0) ≡ false → record_read s at ≡ Err BadHead
  wrong_head l k = sym (read_as s at _ _ _ (Err BadHead) refl refl refl (bad_head (omega (arith, length-drop at s)) (sym kind_on ∙ k)))

  pub bodiless : 4 ≤ length (drop at s) → kind_fits (u16_at (drop at s) 2) (u16_at (drop at s) 0) ≡ true → length (drop at s) < 4 + u16_at (drop at s) 0
      → record_read s at ≡ Err NoBody
  bodiless l k b =
      sym (read_as s at _ _ _ (Err NoBody) refl refl refl
      (no_body (omega (arith, length-drop at s)) (sym kind_on ∙ k) (omega (arith, length-drop at s, u16_here))))

  pub wrong_body : 4 + u16_at (drop at s) 0 ≤ length (drop at s) → kind_fits (u16_at (drop at s) 2) (u16_at (drop at s) 0) ≡ true
      → body_fits (u16_at (drop at s) 2) (u16_at (drop at s) 0) (get_or (drop at s) 4 0) ≡ false → record_read s at ≡ Err (BadBody (at + 4 + u16_at s at))
  wrong_body b k v =
      sym (read_as s at _ _ _ (Err (BadBody (at + 4 + u16_at s at))) refl refl refl
      (bad_body (omega (arith, length-drop at s, u16_here)) (sym kind_on ∙ k) (sym body_on ∙ v)))
