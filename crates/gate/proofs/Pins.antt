-- A gate's pins taken in one by one: what the first comes to, one pin more, and that the whole is the gate's function. Over any number of pins. Assumes nothing.
use mathlib.Core.Path.{◌≡◌, refl, sym, ap, ap₂, ◌∙◌}
use mathlib.Core.Bool.{Bool, true, false, not, ◌||◌, ◌&&◌, cond, beq, or-false, and-true}
use mathlib.Core.List.{List, [], ◌∷◌, ◌++◌}
use Prim.Native.Nat.{ℕ, ◌+◌, ◌≤◌, ◌<◌}
use native.Mathlib.Omega.{arith}
use native.Mathlib.Decide.{dec_lt}
use lib.Dec.{ltb}
use lib.ListN.{length, get_or}
use borrow.Author.Tests.{lt-ltb, le-ltb}
use Rattle.lists.specs.Entries.{some, every}
use Rattle.lists.specs.Listed.{listed}
use Rattle.lists.proofs.Tests.{some_append, every_append}
use Rattle.lists.proofs.Listed.{listed_none, listed_more}
use Rattle.word.specs.Word.{differ}
use Rattle.gate.specs.Inner.Pins.{by_pins, with_pin, of_pins}
use Rattle.gate.specs.Gate.{inverts, controls, controlled, odd, gate}

differ_assoc : (a b c : Bool) → differ a (differ b c) ≡ differ (differ a b) c
differ_assoc false b c = refl
differ_assoc true false c = refl
differ_assoc true true false = refl
differ_assoc true true true = refl

pub differ_false : (a : Bool) → differ a false ≡ a
differ_false true = refl
differ_false false = refl

-- A loop over the pins: one pin more

some_one_more : (f : Bool → Bool) (g : ℕ → Bool) (i : ℕ) → some f (listed g (i + 1)) ≡ some f (listed g i) || f (g i)
some_one_more f g i = ap (some f) (listed_more g i) ∙ some_append f (listed g i) (g i ∷ []) ∙ ap (λ b. some f (listed g i) || b) (or-false (f (g i)))

some_more : (f : Bool → Bool) (g : ℕ → Bool) (i : ℕ) {a b : Bool} → a ≡ some f (listed g i) → b ≡ f (g i) → (a || b) ≡ some f (listed g (i + 1))
some_more f g i e h = ap₂ ◌||◌ e h ∙ sym (some_one_more f g i)

odd_append : (ps : List Bool) (p : Bool) → odd (ps ++ (p ∷ [])) ≡ differ (odd ps) p
odd_append [] p = differ_false p
odd_append (q ∷ ps) p = ap (differ q) (odd_append ps p) ∙ differ_assoc q (odd ps) p

odd_more : (g : ℕ → Bool) (i : ℕ) {a : Bool} → a ≡ odd (listed g i) → differ a (g i) ≡ odd (listed g (i + 1))
odd_more g i e = ap (λ a. differ a (g i)) e ∙ sym (ap odd (listed_more g i) ∙ odd_append (listed g i) (g i))

-- Pin by pin

-- some pin is 0, or every pin is 1
pub by_zero : (ps : List Bool) → cond (some (λ p. beq p false) ps) false true ≡ every (λ p. p) ps
by_zero [] = refl
by_zero (true ∷ ps) = by_zero ps
by_zero (false ∷ ps) = refl

-- some pin is 1, or none is
pub by_one : (ps : List Bool) → cond (some (λ p. beq p true) ps) true false ≡ some (λ p. p) ps
by_one [] = refl
by_one (true ∷ ps) = refl
by_one (false ∷ ps) = by_one ps

every_more : (g : ℕ → Bool) (i : ℕ) → every (λ p. p) (listed g i) && g i ≡ every (λ p. p) (listed g (i + 1))
every_more g i =
    ap (λ b. every (λ p. p) (listed g i) && b) (sym (and-true (g i)))
    ∙ sym (every_append (λ p. p) (listed g i) (g i ∷ [])) ∙ ap (every (λ p. p)) (sym (listed_more g i))

module _ (ty : ℕ) where
  -- one pin comes to itself
  by_single : (p : Bool) → by_pins ty (p ∷ []) ≡ p
  unfolding by_pins
  by_single p = go (ltb ty 6) (controls ty)
    where
      go : (x y : Bool) → cond x (cond y (p || false) (p && true)) (differ p false) ≡ p
      go true true = or-false p
      go true false = and-true p
      go false y = differ_false p

  pub by_first : (g : ℕ → Bool) → g 0 ≡ by_pins ty (listed g 1)
  by_first g = sym (ap (by_pins ty) (listed_more g 0 ∙ ap (λ xs. xs ++ (g 0 ∷ [])) (listed_none g)) ∙ by_single (g 0))

  pub by_more : (g : ℕ → Bool) (i : ℕ) → with_pin ty (by_pins ty (listed g i)) (g i) ≡ by_pins ty (listed g (i + 1))
  unfolding by_pins with_pin
  by_more g i = go (ltb ty 6) (controls ty)
    where
      so : Bool → Bool → ℕ → Bool
      so x y k = cond x (cond y (some (λ p. p) (listed g k)) (every (λ p. p) (listed g k))) (odd (listed g k))

      go : (x y : Bool) → cond x (cond y (so x y i || g i) (so x y i && g i)) (differ (so x y i) (g i)) ≡ so x y (i + 1)
      go true true = some_more (λ p. p) g i refl refl
      go true false = every_more g i
      go false y = odd_more g i refl

  -- what a gate gives of what its pins come to is its function of them
  pub gate_by_pins : (ps : List Bool) → (ty < 2 → length ps ≡ 1) → of_pins ty (by_pins ty ps) ≡ gate ty ps
  unfolding of_pins by_pins controlled gate
  gate_by_pins ps one = go (dec_lt ty 2) (dec_lt ty 6)
    where
      alone : (qs : List Bool) → length qs ≡ 1 → by_pins ty qs ≡ get_or qs 0 false
      alone [] e = absurd (omega arith)
      alone (p ∷ []) e = by_single p
      alone (p ∷ q ∷ qs) e = absurd (omega arith)

      by_control : (c : Bool) → cond (some (λ p. beq p c) ps) c (not c) ≡ cond c (some (λ p. p) ps) (every (λ p. p) ps)
      by_control true = by_one ps
      by_control false = by_zero ps

      go : Dec (ty < 2) → Dec (ty < 6) → differ (by_pins ty ps) (inverts ty) ≡ gate ty ps
      go (yes h) d = ap (λ b. differ b (inverts ty)) (alone ps (one h)) ∙ rw (lt-ltb ty 2 h)
      go (no h) (yes l) = rw (le-ltb ty 2 (omega arith), lt-ltb ty 6 l) (ap (λ b. differ b (inverts ty)) (sym (by_control (controls ty))))
      go (no h) (no l) = rw (le-ltb ty 2 (omega arith), le-ltb ty 6 (omega arith))

  -- as the code goes through the types, with what it has of the table's row
  pub pin_odd : (known p : Bool) → 5 < ty → differ known p ≡ with_pin ty known p
  unfolding with_pin
  pin_odd known p l = rw (le-ltb ty 6 l)

  pub pin_some : (known p : Bool) → ty ≤ 5 → controls ty ≡ true → known || p ≡ with_pin ty known p
  unfolding with_pin
  pin_some known p l e = rw (lt-ltb ty 6 (omega arith), e)

  pub pin_every : (known p : Bool) → ty ≤ 5 → controls ty ≡ false → known && p ≡ with_pin ty known p
  unfolding with_pin
  pin_every known p l e = rw (lt-ltb ty 6 (omega arith), e)
