-- The first of some pins that passes a test. Assumes nothing.
use mathlib.Core.Path.{◌≡◌, refl}
use mathlib.Core.Bool.{Bool, true, false, cond, ◌||◌, false≢true}
use mathlib.Core.List.Memᴰ
use mathlib.Core.List.{List, [], ◌∷◌}
use Prim.Native.Nat.{ℕ}
use Rattle.std.specs.Prelude.{Some}
use Rattle.std.specs.List.{find}
use Rattle.std.specs.Option.{unwrap_or}
use Rattle.lists.specs.Entries.{◌∈◌, some}
use Rattle.rule.specs.Net.{open_pin}
use Rattle.rule.specs.Cause.{first_pin}

-- where some pin passes, the first that does is a pin and passes
pub first_in : (f : ℕ → Bool) (ps : List ℕ) → some f ps ≡ true → (first_pin f ps ∈ ps) × (f (first_pin f ps) ≡ true)
first_in f [] e = absurd (false≢true e)
first_in f (p ∷ ps) e = go (f p) refl e (first_in f ps)
  where
    go : (b : Bool) → f p ≡ b → (b || some f ps) ≡ true → (some f ps ≡ true → (first_pin f ps ∈ ps) × (f (first_pin f ps) ≡ true))
        → (cond b p (first_pin f ps) ∈ (p ∷ ps)) × (f (cond b p (first_pin f ps)) ≡ true)
    go true q r ih = (Memᴰ.head refl, q)
    go false q r ih = let h = ih r in (Memᴰ.tail h.0, h.1)

-- the library's search finds it, where there is one
pub find_first : (f : ℕ → Bool) (ps : List ℕ) → unwrap_or (find f ps) open_pin ≡ first_pin f ps
find_first f [] = refl
find_first f (p ∷ ps) = go (f p) (find_first f ps)
  where
    go : (b : Bool) → unwrap_or (find f ps) open_pin ≡ first_pin f ps → unwrap_or (cond b (Some p) (find f ps)) open_pin ≡ cond b p (first_pin f ps)
    go true e = refl
    go false e = e
