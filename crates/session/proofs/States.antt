-- States of a card: what a rest depends on, that it is kept, and what stands past the card. Assumes nothing.
use mathlib.Core.Path.{◌≡◌, sym, ap, ap₂, ◌∙◌}
use mathlib.Core.Bool.{Bool, false}
use mathlib.Core.List.{List, map}
use mathlib.Core.Logic.{◌⊎◌, inl, inr}
use Prim.Native.Nat.{ℕ, zero, suc, ◌≤◌, ◌<◌}
use lib.ListN.{length}
use Rattle.lists.proofs.Tests.{map_on, map_ext}
use Rattle.rule.specs.Net.{Net, open_pin, open_value, at_pin, net_at, pins, Named}
use Rattle.rule.specs.Rule.{net_fn, value, AtRest, Rest}
use Rattle.rule.proofs.Nets.{at_open, at_pin_same, net_past}
use Rattle.rule.proofs.Values.{net_given, constant_is, open_reads, moves, first_stays}

-- past the card, and not the open pin's number, is a constant 0
pub past_zero : (c : List Net) (before new : ℕ → Bool) (n t : ℕ) → length c ≤ n → ¬ (n ≡ open_pin) → value c before new n t ≡ false
past_zero c before new n t l h = constant_is c before new n t false (net_past c n l h)

module _ (c : List Net) where
  -- two states are the same on the card
  abbrev pub Same : (ℕ → Bool) → (ℕ → Bool) → Type 0
  Same v w = (n : ℕ) → n < length c → v n ≡ w n

  module _ (named : Named c) where
    -- what a net's pins read depends on the card's nets alone
    pins_same : (v w : ℕ → Bool) → Same v w → (n : ℕ) → map (at_pin open_value v) (pins c n) ≡ map (at_pin open_value w) (pins c n)
    pins_same v w h n = map_on (at_pin open_value v) (at_pin open_value w) (pins c n) (λ p m. at p (named n p m))
      where
        at : (p : ℕ) → (p < length c) ⊎ (p ≡ open_pin) → at_pin open_value v p ≡ at_pin open_value w p
        at p (inl l) = at_pin_same open_value v w p (h p l)
        at p (inr q) = rw q (at_open open_value v ∙ sym (at_open open_value w))

    -- a state that is the same on the card is settled too
    pub rest_same : (v w : ℕ → Bool) → Same v w → AtRest c v → AtRest c w
    unfolding AtRest
    rest_same v w h calm n l = sym (h n l) ∙ calm n l ∙ ap₂ (net_fn (net_at c n)) (h n l) (pins_same v w h n)

    pub rest_state_same : (new v w : ℕ → Bool) → Same v w → Rest c new v → Rest c new w
    rest_state_same new v w h r = record { calm = rest_same v w h r.calm; given = λ n l e. sym (h n l) ∙ r.given n l e }

    -- from a rest the same inputs move nothing
    pub rest_stays : (new v : ℕ → Bool) → Rest c new v → (t n : ℕ) → n < length c → value c v new n t ≡ v n
    unfolding AtRest
    rest_stays new v r zero n l = first_stays c v new r.calm n l (λ e. sym (r.given n l e))
    rest_stays new v r (suc t) n l =
        moves c v new n t
        ∙ ap (net_fn (net_at c n) (new n))
        (map_ext (λ p. value c v new p t) _ (pins c n) (λ p. sym (open_reads c v new p t)) ∙ pins_same (λ m. value c v new m t) v (rest_stays new v r t) n)
        ∙ net_given (net_at c n) (new n) (v n) _ (λ e. sym (r.given n l e))
        ∙ sym (r.calm n l)
