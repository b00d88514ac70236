-- Rest: on a card whose pins name nets or are open, whose gates have pins and which has no loop, there is one settled state for given
-- inputs; from any start a net has its settled value from its level on; so every vector starts settled from the last one's end.
-- Assumes nothing.
use mathlib.Core.Path.{◌≡◌, refl, sym, ap, ◌∙◌}
use mathlib.Core.Bool.{Bool, true, false}
use mathlib.Core.List.{List, map}
use mathlib.Core.Logic.{◌⊎◌, inl, inr}
use Prim.Native.Nat.{ℕ, zero, suc, ◌-◌, ◌≤◌, ◌<◌}
use native.Mathlib.Omega.{arith}
use lib.ListN.{length}
use Rattle.lists.specs.Entries.{◌∈◌}
use Rattle.lists.proofs.Tests.{map_on, map_ext}
use Rattle.rule.specs.Net.{Net, open_pin, open_value, at_pin, net_at, pins, is_source, Named, Pinned}
use Rattle.rule.specs.Rule.{net_fn, value, AtRest, Rest}
use Rattle.rule.specs.Level.{level, Looped}
use Rattle.rule.proofs.Timing.{Steady, arrives, ends_settled}
use Rattle.rule.proofs.Nets.{at_open, at_pin_all, net_open}
use Rattle.rule.proofs.Values.{net_given, source_keeps, constant_is, input_is, open_reads, moves, first_stays, move_first}
use Rattle.rule.proofs.Depths.{level_up, gate_level}

module _ (c : List Net) (free : ¬ Looped c) (pinned : Pinned c) (before new : ℕ → Bool) where
  abbrev fn : ℕ → List Bool → Bool
  fn n = net_fn (net_at c n) (new n)

  -- the values alone, whatever came before them: the time 0 twice
  abbrev late : ℕ → ℕ → Bool
  late n t = value c before new n (t - 1)

  -- they follow the rule from the level on
  late_moves : (n t : ℕ) → level c n ≤ t → late n (suc t) ≡ fn n (map (λ p. late p (t - 0)) (pins c n))
  late_moves n zero l = go (is_source (net_at c n)) refl
    where
      go : (b : Bool) → is_source (net_at c n) ≡ b → late n 1 ≡ fn n (map (λ p. late p (0 - 0)) (pins c n))
      go true e = source_keeps c before new n 0 _ e
      go false e = absurd (omega (arith, gate_level c free pinned n e))
  late_moves n (suc t) l =
      let x : suc (suc t) - 1 ≡ suc t = omega arith in
      let y : suc t - 0 - 1 ≡ t = omega arith in
      ap (value c before new n) x ∙ moves c before new n t ∙ rw y

  module _ (d : ℕ) (low : (n : ℕ) → level c n ≤ d) where
    end_steady : (n : ℕ) → value c before new n d ≡ fn n (map (λ p. value c before new p d) (pins c n))
    unfolding Steady
    end_steady n =
        let x : suc d - 1 ≡ d = omega arith in
        rw x at (ends_settled (pins c) (λ m. 0) (level c) (level_up c free) fn late late_moves d low n)

    -- from any start all is at rest from the depth on
    pub ends_at_rest : AtRest c (λ n. value c before new n d)
    unfolding AtRest
    ends_at_rest n l =
        end_steady n
        ∙ net_given (net_at c n) (new n) (value c before new n d) _ (λ e. sym (input_is c before new n d e))
        ∙ ap (net_fn (net_at c n) (value c before new n d)) (map_ext _ _ (pins c n) (λ p. sym (open_reads c before new p d)))

    -- a rest exists
    pub rest_exists : Rest c new (λ n. value c before new n d)
    rest_exists = record { calm = ends_at_rest; given = λ n l e. input_is c before new n d e }

  -- a rest state, with what the pins read: at a source the value that it is given
  module _ (named : Named c) (v : ℕ → Bool) (r : Rest c new v) where
    abbrev full : ℕ → Bool
    full n = value c v new n 0

    full_is : (n : ℕ) → n < length c → v n ≡ full n
    full_is n l = sym (first_stays c v new r.calm n l (λ e. sym (r.given n l e)))

    reads_full : (n p : ℕ) → p ∈ pins c n → at_pin open_value v p ≡ full p
    reads_full n p m = go (named n p m)
      where
        open_full : open_value ≡ full open_pin
        open_full = sym (constant_is c v new open_pin 0 open_value (net_open c))

        go : (p < length c) ⊎ (p ≡ open_pin) → at_pin open_value v p ≡ full p
        go (inl l) = at_pin_all (λ q x. x ≡ full q) open_value v p open_full (full_is p l)
        go (inr e) = rw e (at_open open_value v ∙ open_full)

    full_steady : (n : ℕ) → Steady (pins c) fn full n
    unfolding Steady
    full_steady n = move_first c v new r.calm n ∙ ap (fn n) (map_on _ _ (pins c n) (reads_full n))

    -- "from its level onward it has its settled value", from any start
    pub settles_at_level : (n t : ℕ) → n < length c → level c n ≤ t → value c before new n t ≡ v n
    settles_at_level n t l h =
        let x : suc t - 1 ≡ t = omega arith in
        (rw x at (arrives (pins c) (λ m. 0) (level c) (level_up c free) fn full full_steady late late_moves n t h)) ∙ sym (full_is n l)

-- there is one rest for given inputs
pub rest_unique : (c : List Net) → ¬ Looped c → Pinned c → Named c → (new v w : ℕ → Bool) → Rest c new v → Rest c new w → (n : ℕ) → n < length c → v n ≡ w n
rest_unique c free pinned named new v w rv rw' n l =
    sym (settles_at_level c free pinned v new named v rv n (level c n) l (omega arith)) ∙ settles_at_level c free pinned v new named w rw' n (level c n) l (omega arith)
