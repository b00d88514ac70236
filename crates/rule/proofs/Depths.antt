-- Levels on a card without loops: each gate stands one above its highest pin, and its level is the largest element of its PC-set.
-- Assumes nothing.
use mathlib.Core.Path.{◌≡◌, refl, ap, ◌∙◌}
use mathlib.Core.Bool.{Bool, true, false}
use mathlib.Core.List.Memᴰ
use mathlib.Core.List.{List, [], ◌∷◌, map}
use Prim.Native.Nat.{ℕ, zero, suc, ◌+◌, ◌≤◌, ◌<◌}
use native.Mathlib.Omega.{arith}
use native.Mathlib.Decide.{dec_le, dec_lt}
use lib.ListN.{length}
use Rattle.lists.specs.Entries.{◌∈◌, from}
use Rattle.lists.proofs.Joined.{in_from}
use Rattle.lists.proofs.Tests.{some_in}
use Rattle.lists.proofs.Bools.{not_both}
use Rattle.word.specs.Times.{greatest}
use Rattle.word.proofs.Sets.{greatest_is}
use Rattle.rule.specs.Net.{Net, net_at, pins, is_source, Pinned}
use Rattle.rule.specs.Chain.{pc_set}
use Rattle.rule.specs.Level.{most, over, longest, delay, gates_back, level, depth, Looped}
use Rattle.rule.proofs.Timing.{short}
use Rattle.rule.proofs.Levels.{most_in, most_at, longest_none, rises, longest_over, levels_unique}
use Rattle.rule.proofs.Loops.{some_loop}
use Rattle.rule.proofs.Nets.{pin_listed, source_pins, past_source}
use Rattle.rule.proofs.Chains.{set_reach}

-- an input, a constant and what is past the card have level 0
pub level_source : (c : List Net) (n : ℕ) → is_source (net_at c n) ≡ true → level c n ≡ 0
unfolding level
level_source c n e = longest_none (pins c) (delay c) (length c + 1) n (source_pins (net_at c n) e)

-- no way back is longer than the longest from the card's nets, whatever the weights
pub longest_most : (c : List Net) (w : ℕ → ℕ) (k n : ℕ) → longest w (pins c) k n ≤ most (map (longest w (pins c) k) (from 0 (length c)))
longest_most c w k n = go (dec_lt n (length c))
  where
    go : Dec (n < length c) → longest w (pins c) k n ≤ most (map (longest w (pins c) k) (from 0 (length c)))
    go (yes l) = most_in (longest w (pins c) k) (from 0 (length c)) n (in_from 0 (length c) n (omega arith) (omega arith))
    go (no l) = omega (arith, longest_none (pins c) w k n (source_pins (net_at c n) (past_source c n (omega arith))))

-- "The card's depth is its highest level."
pub level_depth : (c : List Net) (n : ℕ) → level c n ≤ depth c
unfolding level depth
level_depth c n = longest_most c (delay c) (length c + 1) n

-- and some net has it: where the depth is above k a level is
one_above : (f : ℕ → ℕ) (ns : List ℕ) (k : ℕ) → k < most (map f ns) → (n : ℕ) × (k < f n)
one_above f [] k l = absurd (omega arith)
one_above f (n ∷ ns) k l = let b = most_at f n ns in (b.0, omega (arith, b.2))

pub depth_above : (c : List Net) (k : ℕ) → k < depth c → (n : ℕ) × (k < level c n)
unfolding depth
depth_above c k l = one_above (level c) (from 0 (length c)) k l

module _ (c : List Net) (free : ¬ Looped c) where
  -- counted backwards no way has more gates than there are nets
  pub counted : (n : ℕ) → gates_back c (length c + 1) n < length c + 1
  counted n = go (dec_le (gates_back c (length c + 1) n) (length c))
    where
      go : Dec (gates_back c (length c + 1) n ≤ length c) → gates_back c (length c + 1) n < length c + 1
      go (yes l) = omega arith
      go (no l) = absurd (free (some_loop c (length c) (pin_listed c) (length c + 1) n (omega arith)))

  -- "a gate 1 more than its highest pin"
  pub level_over : (n : ℕ) → level c n ≡ over (delay c n) (map (level c) (pins c n))
  unfolding level
  level_over n = longest_over (pins c) (delay c) (length c + 1) counted n

  pub level_up : (n p : ℕ) → p ∈ pins c n → level c p + 1 ≤ level c n
  unfolding level
  level_up n p m = rises (pins c) (delay c) (length c + 1) counted n p m

  -- there is one such function
  pub level_unique : (lev : ℕ → ℕ) → ((n : ℕ) → lev n ≡ over (delay c n) (map lev (pins c n))) → (n : ℕ) → lev n ≡ level c n
  unfolding level
  level_unique lev law n = levels_unique (pins c) (delay c) (length c + 1) counted lev law n

  -- no element is larger than the level
  pub set_level : (n t : ℕ) → level c n < t → pc_set c n t ≡ false
  set_level n t l = short (pins c) (λ m. 0) (level c) level_up (pc_set c) (set_reach c) n t l

  pub element_level : (n t : ℕ) → pc_set c n t ≡ true → t ≤ level c n
  element_level n t e = go (dec_le t (level c n))
    where
      go : Dec (t ≤ level c n) → t ≤ level c n
      go (yes l) = l
      go (no l) = absurd (not_both (pc_set c n t) e (set_level n t (omega arith)))

  module _ (pinned : Pinned c) where
    some_pin : (n : ℕ) → is_source (net_at c n) ≡ false → (p : ℕ) × (p ∈ pins c n)
    some_pin n e = go (pins c n) refl
      where
        go : (ps : List ℕ) → pins c n ≡ ps → (p : ℕ) × (p ∈ ps)
        go [] q = absurd (pinned n e q)
        go (p ∷ ps) q = (p, Memᴰ.head refl)

    pub gate_level : (n : ℕ) → is_source (net_at c n) ≡ false → 1 ≤ level c n
    gate_level n e = let p = some_pin n e in omega (arith, level_up n p.0 p.1)

    -- and the level is one
    element_below : (k n : ℕ) → level c n < k → pc_set c n (level c n) ≡ true
    unfolding pc_set
    element_below zero n l = absurd (omega arith)
    element_below (suc k) n l = go (is_source (net_at c n)) refl (pins c n) refl (λ p. element_below k p)
      where
        go : (b : Bool) → is_source (net_at c n) ≡ b → (ps : List ℕ) → pins c n ≡ ps → ((p : ℕ) → level c p < k → pc_set c p (level c p) ≡ true) → pc_set c n (level c n) ≡ true
        go true e ps q ih = ap (pc_set c n) (level_source c n e) ∙ e
        go false e [] q ih = absurd (pinned n e q)
        go false e (p ∷ ps) q ih =
            let b = most_at (level c) p ps in
            let m : b.0 ∈ pins c n = rw q b.1 in
            let x : level c n ≡ suc (level c b.0) = level_over n ∙ ap (λ qs. over 1 (map (level c) qs)) q ∙ omega (arith, b.2) in
            ap (pc_set c n) x ∙ some_in (λ r. pc_set c r (level c b.0)) (pins c n) b.0 m (ih b.0 (omega arith))

    pub level_element : (n : ℕ) → pc_set c n (level c n) ≡ true
    level_element n = element_below (suc (level c n)) n (omega arith)

    -- the level is the largest element of the PC-set
    pub level_greatest : (n k : ℕ) → level c n < k → greatest (pc_set c n) k 64 ≡ level c n
    level_greatest n k l = greatest_is (pc_set c n) k 64 (level c n) l (level_element n) (λ s h b. set_level n s h)
