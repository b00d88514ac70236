-- Each test that load makes of a card says what document 01 says: an input, pins that name nets, loops, levels, steps. Assumes nothing.
use mathlib.Core.Path.{◌≡◌, refl, ap}
use mathlib.Core.Bool.{Bool, true, false}
use mathlib.Core.List.{List}
use mathlib.Core.Logic.{◌⊎◌, inl, inr}
use Prim.Native.Nat.{ℕ}
use native.Mathlib.Omega.{arith}
use lib.Dec.{eqb, ltb}
use lib.ListN.{length}
use borrow.Author.Tests.{ltb-true, ltb-false, eqb-true, eqb-false}
use Rattle.lists.proofs.Bools.{not_both}
use Rattle.lists.proofs.Number.{number_unique}
use Rattle.word.specs.Times.{count}
use Rattle.word.proofs.Sets.{count_none, count_some}
use Rattle.rule.specs.Net.{Net, net_at, is_input, Named, Pinned}
use Rattle.rule.specs.Level.{depth, Looped}
use Rattle.rule.specs.Steps.{Joined, step_list}
use Rattle.rule.proofs.Nets.{is_input_lem}
use Rattle.rule.proofs.Depths.{level_depth, depth_above}
use Rattle.rule.proofs.StepLists.{list_number}
use Rattle.card_wiring.specs.Wired.{pins_fit, most_back}
use Rattle.card_wiring.proofs.Judgements.{pins_named, named_fit, some_net_loops, back_no_loop}
use Rattle.card.specs.Session.{inputs_of}
use Rattle.card.specs.Allowed.{Fed, Deep, Long}

-- a test tells whether P holds
pub record Tells (b : Bool) (P : Type 0) : Type 0 where
  pub yes_is : b ≡ true → P
  pub no_is : b ≡ false → ¬ P

-- and a test that tells passes exactly where P holds
pub tells_true : (b : Bool) (P : Type 0) → Tells b P → P → b ≡ true
tells_true true P t p = refl
tells_true false P t p = absurd (t.no_is refl p)

pub tells_false : (b : Bool) (P : Type 0) → Tells b P → ¬ P → b ≡ false
tells_false true P t n = absurd (n (t.yes_is refl))
tells_false false P t n = refl

-- "at least one of them an input"

pub fed_tells : (c : List Net) → Tells (eqb (inputs_of c) 0) (¬ Fed c)
unfolding inputs_of
fed_tells c = record { yes_is = yes_is; no_is = no_is }
  where
    f : ℕ → Bool
    f n = is_input (net_at c n)

    yes_is : eqb (count f (length c)) 0 ≡ true → ¬ Fed c
    yes_is e r = not_both (f r.0) (ap is_input r.2) (count_none f (length c) (eqb-true (count f (length c)) 0 e) r.0 r.1)

    no_is : eqb (count f (length c)) 0 ≡ false → ¬ (¬ Fed c)
    no_is e h = let r = count_some f (length c) (eqb-false (count f (length c)) 0 e) in h (r.0, r.1, is_input_lem (net_at c r.0) r.2)

pub fed_or_not : (c : List Net) → Fed c ⊎ (¬ Fed c)
unfolding inputs_of
fed_or_not c = go (eqb (inputs_of c) 0) refl
  where
    f : ℕ → Bool
    f n = is_input (net_at c n)

    go : (b : Bool) → eqb (inputs_of c) 0 ≡ b → Fed c ⊎ (¬ Fed c)
    go true e = inr ((fed_tells c).yes_is e)
    go false e = let r = count_some f (length c) (eqb-false (count f (length c)) 0 e) in inl (r.0, r.1, is_input_lem (net_at c r.0) r.2)

-- "a pin names no net and isn't 65535"

pub named_tells : (c : List Net) → Tells (pins_fit c) (Named c)
named_tells c = record { yes_is = pins_named c; no_is = λ e h. not_both (pins_fit c) (named_fit c h) e }

-- "a gate reaches itself through pins"

pub loop_tells : (c : List Net) → Tells (ltb (length c) (most_back c)) (Looped c)
loop_tells c = record { yes_is = λ e. some_net_loops c (ltb-true (length c) (most_back c) e); no_is = λ e. back_no_loop c (ltb-false (length c) (most_back c) e) }

-- "a level over 63"

pub deep_tells : (c : List Net) → Tells (ltb 63 (depth c)) (Deep c)
deep_tells c = record {
  yes_is = λ e. depth_above c 63 (ltb-true 63 (depth c) e);
  no_is = λ e r. let h = ltb-false 63 (depth c) e in let l = level_depth c r.0 in omega (arith, r.1);
}

-- "over 4,096 steps"

pub long_tells : (c : List Net) → ¬ Looped c → Pinned c → Tells (ltb 4096 (length (step_list c))) (Long c)
long_tells c free pinned = record {
  yes_is = λ e. (length (step_list c), list_number c free pinned, ltb-true 4096 _ e);
  no_is = λ e r. let u = number_unique (Joined c) r.0 (length (step_list c)) r.1 (list_number c free pinned) in let h = ltb-false 4096 (length (step_list c)) e in omega (arith, r.2);
}
