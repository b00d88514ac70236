-- The pins of a net, read one after another: tests on all of them, and what an array of the nets has for each. Assumes nothing.
use mathlib.Core.Path.{◌≡◌, refl, sym, ap, ◌∙◌, subst}
use mathlib.Core.Bool.{Bool, true}
use mathlib.Core.List.Memᴰ
use mathlib.Core.List.{List, [], ◌∷◌, ◌++◌, map, map-append}
use mathlib.Core.Logic.{◌⊎◌, inl, inr, ⊎_elim}
use Prim.Native.Nat.{ℕ, zero, suc, ◌+◌, ◌*◌, ◌≤◌, ◌<◌}
use native.Mathlib.Numerals.{add-one}
use native.Mathlib.Omega.{arith}
use native.Mathlib.Decide.{dec_lt}
use Rattle.std.specs.List.{list_all, range_with_len}
use lib.Dec.{ltb, eqb}
use lib.ListN.{length, get_or, take, drop}
use Rattle.std.proofs.lemmas.List.{length-take, length-drop, length-take-le, get_or-take, get_or-drop, take_more}
use borrow.Author.Tests.{ltb-true, eqb-true, lt-ltb, eq-eqb}
use Rattle.lists.specs.Entries.{◌∈◌, every, from}
use Rattle.lists.specs.Listed.{listed}
use Rattle.lists.proofs.Bools.{or_either, or_later}
use Rattle.lists.proofs.Tests.{every_at, every_is, every_yes, map_on}
use Rattle.lists.proofs.Joined.{in_from}
use Rattle.lists.proofs.Listed.{listed_none, listed_at, in_listed, is_listed}
use Rattle.lists.proofs.Order.{at_in}
use Rattle.rule.specs.Net.{open_pin, at_pin}
use Rattle.rule.proofs.Nets.{at_open, at_net, not_open}
use Rattle.card_wiring.specs.Layout.{pins_at}
use Rattle.card_wiring.specs.Inner.Wires.{Wires, Fitting, all_fit}
use Rattle.card_wiring.specs.Wired.{pin_fits}

-- A list that is gone through: one entry more

module _ {A B : Type 0} (f : A → B) (xs : List A) (i : ℕ) (d : A) (l : i < length xs) where
  pub map_entry : map f (take (i + 1) xs) ≡ map f (take i xs) ++ (f (get_or xs i d) ∷ [])
  map_entry = ap (map f) (take_more xs i d l) ∙ map-append f (take i xs) (get_or xs i d ∷ [])

-- its first entries, as a list by place
pub front_listed : (xs : List ℕ) (i : ℕ) → i ≤ length xs → take i xs ≡ listed (λ k. get_or xs k 0) i
front_listed xs i l = is_listed (λ k. get_or xs k 0) i 0 (take i xs) (length-take-le i xs l) (λ k b. get_or-take i xs k 0 b)

-- The library's word for a test on every entry, and for a range of numbers

range_from : (a k : ℕ) → range_with_len a k ≡ from a k
range_from a zero = refl
range_from a (suc k) = rw (add-one a, range_from (suc a) k)

pub all_from : (test : ℕ → Bool) (a k : ℕ) → list_all test (range_with_len a k) ≡ every test (from a k)
all_from test a k = every_is test (range_with_len a k) ∙ ap (every test) (range_from a k)

-- what stands in a list from a place on
pub part_listed : (xs : List ℕ) (a n k : ℕ) → n ≡ k → a + k ≤ length xs → take n (drop a xs) ≡ listed (λ j. get_or xs (a + j) 0) k
part_listed xs a n k e l =
    is_listed (λ j. get_or xs (a + j) 0) k 0 (take n (drop a xs)) (simp (length-take, length-drop) (omega arith))
    (λ i b. get_or-take n (drop a xs) i 0 (omega arith) ∙ get_or-drop a xs i 0)

-- Pins that fit

pub fits_named : (n p : ℕ) → pin_fits n p ≡ true → (p < n) ⊎ (p ≡ open_pin)
fits_named n p e = ⊎_elim (λ a. inl (ltb-true p n a)) (λ b. inr (eqb-true p open_pin b)) (or_either (ltb p n) (eqb p open_pin) e)

pub named_fits : (n p : ℕ) → (p < n) ⊎ (p ≡ open_pin) → pin_fits n p ≡ true
named_fits n p (inl l) = rw (lt-ltb p n l)
named_fits n p (inr e) = or_later (ltb p n) _ (eq-eqb p open_pin e)

pub all_fitting : (counts places : List ℕ) (n : ℕ) → Fitting counts places n → all_fit counts places n ≡ true
all_fitting counts places n named = every_yes _ (from 0 n) (λ g m. every_yes (pin_fits n) (pins_at counts places g) (λ p i. named_fits n p (named g p i)))

pub no_pins : (counts places : List ℕ) (n g : ℕ) → Wires counts places n → n ≤ g → pins_at counts places g ≡ []
no_pins counts places n g w l = rw (w.past g l) (listed_none _)

pub fitting : (counts places : List ℕ) (n : ℕ) → Wires counts places n → all_fit counts places n ≡ true → Fitting counts places n
fitting counts places n w e g p m = go (dec_lt g n)
  where
    go : Dec (g < n) → (p < n) ⊎ (p ≡ open_pin)
    go (yes l) =
        fits_named n p (every_at (pin_fits n) (pins_at counts places g) (every_at (λ h. every (pin_fits n) (pins_at counts places h)) (from 0 n) e g (in_from 0 n g (omega arith) (omega arith))) p m)
    go (no l) = absurd (Memᴰ.not-nil (rw (no_pins counts places n g w (omega arith)) at m))

-- pin j of net g
pub pin_fitting : (counts places : List ℕ) (n g j : ℕ) → Wires counts places n → Fitting counts places n → j < get_or counts g 0
    → (get_or places (g * 8 + j) 0 < 256) ⊎ (get_or places (g * 8 + j) 0 ≡ open_pin)
pin_fitting counts places n g j w named l =
    let few = w.few in
    ⊎_elim (λ h. inl (omega arith)) inr (named g (get_or places (g * 8 + j) 0) (in_listed (λ i. get_or places (g * 8 + i) 0) (get_or counts g 0) j l))

-- and a gate's first pin
pub first_fitting : (counts places : List ℕ) (n g : ℕ) → Wires counts places n → Fitting counts places n → 0 < get_or counts g 0
    → (get_or places (g * 8) 0 < 256) ⊎ (get_or places (g * 8) 0 ≡ open_pin)
first_fitting counts places n g w named l =
    let first : g * 8 + 0 ≡ g * 8 = omega arith in
    subst (λ k. (get_or places k 0 < 256) ⊎ (get_or places k 0 ≡ open_pin)) first (pin_fitting counts places n g 0 w named l)

-- and pin i of those that a net has
pub pin_entry : (counts places : List ℕ) (n g : ℕ) → Wires counts places n → all_fit counts places n ≡ true → (ps : List ℕ) → ps ≡ pins_at counts places g
    → (i : ℕ) → i < length ps → (get_or ps i 0 < 256) ⊎ (get_or ps i 0 ≡ open_pin)
pin_entry counts places n g w e ps q i l =
    let few = w.few in
    ⊎_elim (λ h. inl (omega arith)) inr (fitting counts places n w e g (get_or ps i 0) (subst (λ xs. get_or ps i 0 ∈ xs) q (at_in ps i 0 l)))

-- An array has for its pins what f has, where it has f for the nets and `loose` is f of the open pin
pub pins_read : (f : ℕ → ℕ) (loose n : ℕ) (ps : List ℕ) → n ≤ 256 → ((p : ℕ) → p ∈ ps → (p < n) ⊎ (p ≡ open_pin)) → f open_pin ≡ loose
    → map (at_pin loose (λ m. get_or (listed f 256) m 0)) ps ≡ map f ps
pins_read f loose n ps few named e = map_on (at_pin loose (λ m. get_or (listed f 256) m 0)) f ps (λ p m. read p (named p m))
  where
    read : (p : ℕ) → (p < n) ⊎ (p ≡ open_pin) → at_pin loose (λ m. get_or (listed f 256) m 0) p ≡ f p
    read p (inl l) = at_net loose (λ m. get_or (listed f 256) m 0) p (not_open p (omega arith)) ∙ listed_at f 256 p 0 (omega arith)
    read p (inr q) = rw q (at_open loose (λ m. get_or (listed f 256) m 0) ∙ sym e)
