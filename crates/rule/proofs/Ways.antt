-- The nets on the way back from a change: one net, or one more than from its cause. Assumes nothing.
use mathlib.Core.Path.{◌≡◌, refl, ap, ◌∙◌}
use mathlib.Core.Bool.{Bool}
use mathlib.Core.List.Memᴰ
use mathlib.Core.List.{List, [], ◌∷◌}
use Prim.Native.Nat.{ℕ, zero, suc, ◌+◌, ◌-◌, ◌≤◌, ◌<◌}
use native.Mathlib.Omega.{arith}
use lib.ListN.{length, get_or}
use Rattle.lists.specs.Entries.{◌∈◌}
use Rattle.rule.specs.Net.{Net, pins}
use Rattle.rule.specs.Cause.{first_pin, causes}

-- tests that agree on the pins find the same
pub first_on : (f g : ℕ → Bool) (ps : List ℕ) → ((p : ℕ) → p ∈ ps → f p ≡ g p) → first_pin f ps ≡ first_pin g ps
first_on f g [] h = refl
first_on f g (p ∷ ps) h = rw (h p (Memᴰ.head refl), first_on f g ps (λ q m. h q (Memᴰ.tail m)))

module _ (c : List Net) (moved : ℕ → ℕ → Bool) where
  pub way_none : (n t : ℕ) → t ≤ 0 → causes c moved n t ≡ n ∷ []
  unfolding causes
  way_none n zero l = refl
  way_none n (suc t) l = absurd (omega arith)

  pub way_more : (n t : ℕ) → 0 < t → causes c moved n t ≡ n ∷ causes c moved (first_pin (λ p. moved p (t - 1)) (pins c n)) (t - 1)
  unfolding causes
  way_more n zero l = absurd (omega arith)
  way_more n (suc t) l = let e : t ≡ suc t - 1 = omega arith in ap (λ u. n ∷ causes c moved (first_pin (λ p. moved p u) (pins c n)) u) e

  -- "t+1 of them": the net first, and after each entry the first pin of it that changed one unit earlier
  pub way_length : (n t : ℕ) → length (causes c moved n t) ≡ t + 1
  unfolding causes
  way_length n zero = refl
  way_length n (suc t) = ap suc (way_length (first_pin (λ p. moved p t) (pins c n)) t) ∙ omega arith

  pub way_first : (n t d : ℕ) → get_or (causes c moved n t) 0 d ≡ n
  unfolding causes
  way_first n zero d = refl
  way_first n (suc t) d = refl

  pub way_next : (n t i d : ℕ) → i < t → get_or (causes c moved n t) (suc i) d ≡ first_pin (λ p. moved p (t - suc i)) (pins c (get_or (causes c moved n t) i d))
  unfolding causes
  way_next n zero i d l = absurd (omega arith)
  way_next n (suc t) zero d l = let e : t ≡ suc t - 1 = omega arith in way_first _ t d ∙ ap (λ u. first_pin (λ p. moved p u) (pins c n)) e
  way_next n (suc t) (suc i) d l =
      let e : t - suc i ≡ suc t - suc (suc i) = omega arith in
      let q = first_pin (λ p. moved p t) (pins c n) in
      way_next q t i d (omega arith) ∙ ap (λ u. first_pin (λ p. moved p u) (pins c (get_or (causes c moved q t) i d))) e

  -- later entries are those of the way back from the cause
  pub way_later : (n t i d : ℕ) → get_or (causes c moved n (suc t)) (suc i) d ≡ get_or (causes c moved (first_pin (λ p. moved p t) (pins c n)) t) i d
  unfolding causes
  way_later n t i d = refl

-- changes that agree on the pins have the same way back
pub way_on : (c : List Net) (moved moved' : ℕ → ℕ → Bool) (n t : ℕ)
    → ((g p u : ℕ) → p ∈ pins c g → u < t → moved p u ≡ moved' p u) → causes c moved n t ≡ causes c moved' n t
unfolding causes
way_on c moved moved' n zero h = refl
way_on c moved moved' n (suc t) h =
    let e : first_pin (λ p. moved p t) (pins c n) ≡ first_pin (λ p. moved' p t) (pins c n) =
    first_on (λ p. moved p t) (λ p. moved' p t) (pins c n) (λ p m. h n p t m (omega arith)) in
    ap (λ ns. n ∷ ns) (way_on c moved moved' (first_pin (λ p. moved p t) (pins c n)) t (λ g p u m l. h g p u m (omega arith)) ∙ ap (λ p. causes c moved' p t) e)
