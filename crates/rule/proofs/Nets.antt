-- What a number names on a card: a net, the open pin, or nothing; and what a net is. Assumes nothing.
use mathlib.Core.Path.{◌≡◌, refl, sym, ap, ◌∙◌, subst}
use mathlib.Core.Bool.{Bool, true, false, cond, true≢false, false≢true}
use mathlib.Core.List.Memᴰ
use mathlib.Core.List.{List, []}
use Prim.Native.Nat.{ℕ, ◌≤◌, ◌<◌}
use native.Mathlib.Omega.{arith}
use native.Mathlib.Decide.{dec_lt}
use lib.Dec.{eqb}
use lib.ListN.{length, get_or, get_or-eq_default}
use borrow.Author.Tests.{eq-eqb, ne_eqb, eqb-true}
use Rattle.lists.specs.Entries.{◌∈◌}
use Rattle.rule.specs.Net.{Net, input, constant, gate, open_pin, open_value, at_pin, net_at, pins, pins_of, is_input, is_source}

-- The open pin

pub at_open : {A : Type 0} (loose : A) (f : ℕ → A) → at_pin loose f open_pin ≡ loose
unfolding at_pin
at_open loose f = rw (eq-eqb open_pin open_pin refl)

pub at_net : {A : Type 0} (loose : A) (f : ℕ → A) (p : ℕ) → ¬ (p ≡ open_pin) → at_pin loose f p ≡ f p
unfolding at_pin
at_net loose f p h = rw (ne_eqb p open_pin h)

-- what a pin finds in two functions that agree on it
pub at_pin_same : {A : Type 0} (loose : A) (f g : ℕ → A) (p : ℕ) → f p ≡ g p → at_pin loose f p ≡ at_pin loose g p
unfolding at_pin
at_pin_same loose f g p e = ap (cond (eqb p open_pin) loose) e

-- what holds of the open pin's and of each net's holds of every pin's
pub at_pin_all : {A : Type 0} (P : ℕ → A → Type 0) (loose : A) (f : ℕ → A) (p : ℕ) → P open_pin loose → P p (f p) → P p (at_pin loose f p)
unfolding at_pin
at_pin_all P loose f p a b = go (eqb p open_pin) refl
  where
    go : (x : Bool) → eqb p open_pin ≡ x → P p (cond x loose (f p))
    go true e = subst (λ q. P q loose) (sym (eqb-true p open_pin e)) a
    go false e = b

-- "Pin value 65535 is an open pin."
pub open_is : open_pin ≡ 65535
unfolding open_pin
open_is = refl

-- a number below 65,535 is not the open pin's
pub not_open : (n : ℕ) → n < 65535 → ¬ (n ≡ open_pin)
unfolding open_pin
not_open n l e = omega arith

-- Nets

pub net_open : (c : List Net) → net_at c open_pin ≡ constant open_value
unfolding net_at
net_open c = at_open (constant open_value) (λ m. get_or c m (constant false))

pub net_here : (c : List Net) (n : ℕ) → n < 65535 → net_at c n ≡ get_or c n (constant false)
unfolding net_at
net_here c n l = at_net (constant open_value) (λ m. get_or c m (constant false)) n (not_open n l)

-- past the card, and not the open pin's number, is a constant 0
pub net_past : (c : List Net) (n : ℕ) → length c ≤ n → ¬ (n ≡ open_pin) → net_at c n ≡ constant false
unfolding net_at
net_past c n l h = at_net (constant open_value) (λ m. get_or c m (constant false)) n h ∙ get_or-eq_default c (constant false) l

-- "A net is an input, a constant, or the output of one gate."
pub data NetIs (w : Net) : Type 0 where
  an_input : w ≡ input → NetIs w
  a_constant : (k : Bool) → w ≡ constant k → NetIs w
  a_gate : is_source w ≡ false → NetIs w

pub net_is : (w : Net) → NetIs w
net_is input = an_input refl
net_is (constant k) = a_constant k refl
net_is (gate ty ps) = a_gate refl

pub is_input_lem : (w : Net) → is_input w ≡ true → w ≡ input
is_input_lem input e = refl
is_input_lem (constant k) e = absurd (false≢true e)
is_input_lem (gate ty ps) e = absurd (false≢true e)

pub no_input : (w : Net) → is_source w ≡ false → is_input w ≡ false
no_input input e = absurd (true≢false e)
no_input (constant k) e = refl
no_input (gate ty ps) e = refl

-- past the card there are constants alone
past_constant : (c : List Net) (n : ℕ) → length c ≤ n → (k : Bool) × (net_at c n ≡ constant k)
unfolding net_at
past_constant c n l =
    at_pin_all (λ p w. (k : Bool) × (w ≡ constant k)) (constant open_value) (λ m. get_or c m (constant false)) n (open_value, refl)
    (false, get_or-eq_default c (constant false) l)

pub past_input : (c : List Net) (n : ℕ) → length c ≤ n → is_input (net_at c n) ≡ false
past_input c n l = ap is_input (past_constant c n l).1

pub past_source : (c : List Net) (n : ℕ) → length c ≤ n → is_source (net_at c n) ≡ true
past_source c n l = ap is_source (past_constant c n l).1

-- a gate is a net of the card, and not the open pin
pub gate_listed : (c : List Net) (n : ℕ) → is_source (net_at c n) ≡ false → n < length c
gate_listed c n e = go (dec_lt n (length c))
  where
    go : Dec (n < length c) → n < length c
    go (yes l) = l
    go (no l) = absurd (true≢false (sym (past_source c n (omega arith)) ∙ e))

pub gate_not_open : (c : List Net) (n : ℕ) → is_source (net_at c n) ≡ false → ¬ (n ≡ open_pin)
gate_not_open c n e q = true≢false (sym (ap is_source (net_open c)) ∙ ap (λ m. is_source (net_at c m)) (sym q) ∙ e)

-- Pins

pub source_pins : (w : Net) → is_source w ≡ true → pins_of w ≡ []
source_pins input e = refl
source_pins (constant k) e = refl
source_pins (gate ty ps) e = absurd (false≢true e)

-- only a gate has pins
pub pin_of_gate : (c : List Net) (n p : ℕ) → p ∈ pins c n → is_source (net_at c n) ≡ false
pin_of_gate c n p m = go (is_source (net_at c n)) refl
  where
    go : (b : Bool) → is_source (net_at c n) ≡ b → b ≡ false
    go true e = absurd (Memᴰ.not-nil (subst (λ ps. p ∈ ps) (source_pins (net_at c n) e) m))
    go false e = refl

pub pin_listed : (c : List Net) (n p : ℕ) → p ∈ pins c n → n < length c
pin_listed c n p m = gate_listed c n (pin_of_gate c n p m)
