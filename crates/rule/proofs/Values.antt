-- The unit-delay rule from a settled start, as timed nets: when a net can change, and what a step reads. Assumes nothing.
use mathlib.Core.Path.{◌≡◌, refl, sym, ap, ◌∙◌}
use mathlib.Core.Bool.{Bool, true, false, true≢false, false≢true}
use mathlib.Core.List.{List, [], map}
use Prim.Native.Nat.{ℕ, zero, suc, ◌<◌}
use native.Mathlib.Nat.{sub-zero}
use lib.ListN.{length}
use Rattle.lists.specs.Entries.{◌∈◌}
use Rattle.lists.proofs.Bools.{not_both}
use Rattle.lists.proofs.Tests.{map_on}
use Rattle.word.specs.Word.{differ, moved_up}
use Rattle.word.specs.Times.{greatest, no_time, zero_in}
use Rattle.word.proofs.Sets.{greatest_zero, greatest_zero_any}
use Rattle.rule.specs.Net.{Net, input, constant, gate, open_pin, open_value, at_pin, net_at, pins, is_source}
use Rattle.rule.specs.Rule.{net_fn, first, value, AtRest}
use Rattle.rule.specs.Chain.{Chain, pc_set}
use Rattle.rule.specs.Flag.{changed_at}
use Rattle.rule.proofs.Timing.{Steady, Timed, steady, held}
use Rattle.rule.proofs.Nets.{at_net, net_open, at_pin_all, gate_listed, gate_not_open}
use Rattle.rule.proofs.Chains.{chain_of_set, set_reach}

-- what an input is given matters to it alone
pub net_given : (w : Net) (x y : Bool) (vs : List Bool) → (w ≡ input → x ≡ y) → net_fn w x vs ≡ net_fn w y vs
net_given input x y vs h = h refl
net_given (constant k) x y vs h = refl
net_given (gate ty ps) x y vs h = refl

pub gate_given : (w : Net) (x y : Bool) (vs : List Bool) → is_source w ≡ false → net_fn w x vs ≡ net_fn w y vs
gate_given w x y vs e = net_given w x y vs (λ q. absurd (true≢false (ap is_source (sym q) ∙ e)))

-- at time 0 an input and a constant have their own value, whatever stands for their pins, and a gate has its before value
first_source : (w : Net) (new before : Bool) (vs : List Bool) → is_source w ≡ true → first w new before ≡ net_fn w new vs
first_source input new before vs e = refl
first_source (constant k) new before vs e = refl
first_source (gate ty ps) new before vs e = absurd (false≢true e)

first_gate : (w : Net) (new before : Bool) → is_source w ≡ false → first w new before ≡ before
first_gate input new before e = absurd (true≢false e)
first_gate (constant k) new before e = absurd (true≢false e)
first_gate (gate ty ps) new before e = refl

-- The values in a set of nets that holds the pins of its gates depend on that set alone: on the new values of its inputs and the before
-- values of its gates
module _ (c : List Net) (In : ℕ → Type 0) (holds : (n p : ℕ) → In n → p ∈ pins c n → In p) where
  pub value_same : (before before' new new' : ℕ → Bool) → ((n : ℕ) → In n → is_source (net_at c n) ≡ false → before n ≡ before' n)
      → ((n : ℕ) → In n → net_at c n ≡ input → new n ≡ new' n)
      → (n t : ℕ) → In n → value c before new n t ≡ value c before' new' n t
  unfolding value
  value_same before before' new new' hb hn n zero i = go (is_source (net_at c n)) refl
    where
      w : Net
      w = net_at c n

      go : (b : Bool) → is_source w ≡ b → first w (new n) (before n) ≡ first w (new' n) (before' n)
      go true e = first_source w _ _ [] e ∙ net_given w (new n) (new' n) [] (hn n i) ∙ sym (first_source w _ _ [] e)
      go false e = first_gate w _ _ e ∙ hb n i e ∙ sym (first_gate w _ _ e)
  value_same before before' new new' hb hn n (suc t) i =
      net_given (net_at c n) (new n) (new' n) _ (hn n i)
      ∙ ap (net_fn (net_at c n) (new' n)) (map_on _ _ (pins c n) (λ p m. value_same before before' new new' hb hn p t (holds n p i m)))

module _ (c : List Net) (before new : ℕ → Bool) where
  abbrev v : ℕ → ℕ → Bool
  v = value c before new

  -- inputs and constants don't move
  pub source_keeps : (n t : ℕ) (vs : List Bool) → is_source (net_at c n) ≡ true → v n t ≡ net_fn (net_at c n) (new n) vs
  unfolding value
  source_keeps n zero vs e = first_source (net_at c n) (new n) (before n) vs e
  source_keeps n (suc t) vs e = sym (first_source (net_at c n) (new n) (before n) _ e) ∙ first_source (net_at c n) (new n) (before n) vs e

  pub constant_is : (n t : ℕ) (k : Bool) → net_at c n ≡ constant k → v n t ≡ k
  constant_is n t k e = source_keeps n t [] (ap is_source e) ∙ ap (λ w. net_fn w (new n) []) e

  pub input_is : (n t : ℕ) → net_at c n ≡ input → v n t ≡ new n
  input_is n t e = source_keeps n t [] (ap is_source e) ∙ ap (λ w. net_fn w (new n) []) e

  pub gate_starts : (n : ℕ) → is_source (net_at c n) ≡ false → v n 0 ≡ before n
  unfolding value
  gate_starts n e = first_gate (net_at c n) (new n) (before n) e

  -- what an open pin reads is what the rule gives it
  pub open_reads : (p t : ℕ) → at_pin open_value (λ m. v m t) p ≡ v p t
  open_reads p t = at_pin_all (λ q x. x ≡ v q t) open_value (λ m. v m t) p (sym (constant_is open_pin t open_value (net_open c))) refl

  -- one unit later, as a function of the pins
  pub moves : (n t : ℕ) → v n (suc t) ≡ net_fn (net_at c n) (new n) (map (λ p. v p t) (pins c n))
  unfolding value
  moves n t = refl

  -- before values at 0, then the values
  unfoldable pub wave_at : ℕ → ℕ → Bool
  wave_at n zero = at_pin open_value before n
  wave_at n (suc t) = v n t

  module _ (calm : AtRest c before) where
    rest_fn : (n : ℕ) → is_source (net_at c n) ≡ false → before n ≡ net_fn (net_at c n) (new n) (map (at_pin open_value before) (pins c n))
    unfolding AtRest
    rest_fn n e = calm n (gate_listed c n e) ∙ gate_given (net_at c n) (before n) (new n) _ e

    -- and time 0 from the before values
    pub move_first : (n : ℕ) → v n 0 ≡ net_fn (net_at c n) (new n) (map (at_pin open_value before) (pins c n))
    move_first n = go (is_source (net_at c n)) refl
      where
        go : (b : Bool) → is_source (net_at c n) ≡ b → v n 0 ≡ net_fn (net_at c n) (new n) (map (at_pin open_value before) (pins c n))
        go true e = source_keeps n 0 _ e
        go false e = gate_starts n e ∙ rest_fn n e

    -- every net still has its before value then, but an input that is given another
    pub first_stays : (n : ℕ) → n < length c → (net_at c n ≡ input → new n ≡ before n) → v n 0 ≡ before n
    unfolding AtRest
    first_stays n l h = move_first n ∙ net_given (net_at c n) (new n) (before n) _ h ∙ sym (calm n l)

    pub timed : Timed (pins c) (λ n. 0) (λ n. net_fn (net_at c n) (new n)) wave_at (pc_set c)
    unfolding wave_at Steady pc_set
    timed = record {
      move = λ n t. rw sub-zero (go n t);
      rest = λ n e. at_net open_value before n (gate_not_open c n e) ∙ rest_fn n e;
      reach = set_reach c;
    }
      where
        go : (n t : ℕ) → v n t ≡ net_fn (net_at c n) (new n) (map (λ p. wave_at p t) (pins c n))
        go n zero = move_first n
        go n (suc t) = moves n t

    -- "Nets change only at times in their PC-set."
    pub changes_in_set : (n t : ℕ) → pc_set c n (suc t) ≡ false → v n (suc t) ≡ v n t
    unfolding wave_at
    changes_in_set n t = steady timed n (suc t)

    differ_same : (a b : Bool) → a ≡ b → differ a b ≡ false
    differ_same true b e = rw (← e)
    differ_same false b e = rw (← e)

    -- the same with chains, time 0 included
    pub change_has_chain : (n t : ℕ) → changed_at (before n) (v n) t ≡ true → Chain c n t
    unfolding pc_set
    change_has_chain n t e = chain_of_set c n t (go (pc_set c n t) refl)
      where
        still : (t : ℕ) → pc_set c n t ≡ false → v n t ≡ moved_up (before n) (v n) t
        still zero q = gate_starts n q
        still (suc t) q = changes_in_set n t q

        go : (b : Bool) → pc_set c n t ≡ b → b ≡ true
        go true q = refl
        go false q = absurd (not_both (changed_at (before n) (v n) t) e (differ_same (v n t) (moved_up (before n) (v n) t) (still t q)))

    -- a variable holds from its element on: what a step reads of a pin is the pin's value one unit earlier
    pub read_is : (n t : ℕ) → v n (greatest (zero_in (pc_set c n)) (suc t) no_time) ≡ v n t
    unfolding wave_at
    read_is n t = ap (v n) (greatest_zero_any (pc_set c n) t no_time ∙ greatest_zero (pc_set c n) (suc t)) ∙ held timed n t
