-- What the tests of the judgement say of a card: 4 is a pin that names no net and is not open, 5 a net that reaches itself through pins.
-- Assumes nothing.
use mathlib.Core.Path.{◌≡◌}
use mathlib.Core.Bool.{true}
use mathlib.Core.List.{List, [], ◌∷◌, map}
use Prim.Native.Nat.{ℕ, ◌+◌, ◌≤◌, ◌<◌}
use native.Mathlib.Omega.{arith}
use native.Mathlib.Decide.{dec_lt}
use lib.ListN.{length}
use Rattle.lists.specs.Entries.{every, from}
use Rattle.lists.proofs.Tests.{every_at, every_yes}
use Rattle.lists.proofs.Joined.{in_from}
use Rattle.rule.specs.Net.{Net, pins, Named}
use Rattle.rule.specs.Level.{most, gates_back, Looped}
use Rattle.rule.proofs.Nets.{pin_listed}
use Rattle.rule.proofs.Levels.{most_at}
use Rattle.rule.proofs.Depths.{longest_most}
use Rattle.rule.proofs.Loops.{counted_no_loop, some_loop}
use Rattle.card_wiring.specs.Wired.{pin_fits, pins_fit, most_back}
use Rattle.card_wiring.proofs.Pins.{fits_named, named_fits}

module _ (c : List Net) where
  -- 4 is passed exactly where every pin names a net or is open
  pub pins_named : pins_fit c ≡ true → Named c
  unfolding pins_fit
  pins_named e n p m =
      fits_named (length c) p
      (every_at (pin_fits (length c)) (pins c n) (every_at (λ g. every (pin_fits (length c)) (pins c g)) (from 0 (length c)) e n (in_from 0 (length c) n (omega arith) (omega (arith, pin_listed c n p m)))) p m)

  pub named_fit : Named c → pins_fit c ≡ true
  unfolding pins_fit
  named_fit named = every_yes _ (from 0 (length c)) (λ g m. every_yes (pin_fits (length c)) (pins c g) (λ p i. named_fits (length c) p (named g p i)))

  -- 5 is passed exactly where no net reaches itself
  back_most : (n : ℕ) → gates_back c (length c + 1) n ≤ most_back c
  unfolding most_back
  back_most n = longest_most c (λ g. 1) (length c + 1) n

  pub back_no_loop : most_back c ≤ length c → ¬ Looped c
  back_no_loop l = counted_no_loop c (length c + 1) (λ n. omega (arith, back_most n))

  pub some_net_loops : length c < most_back c → Looped c
  unfolding most_back
  some_net_loops l = go (from 0 (length c)) l
    where
      go : (ns : List ℕ) → length c < most (map (gates_back c (length c + 1)) ns) → Looped c
      go [] h = absurd (omega arith)
      go (n ∷ ns) h =
          let top = most_at (gates_back c (length c + 1)) n ns in
          some_loop c (length c) (pin_listed c) (length c + 1) top.0 (omega (arith, top.2))

  pub loop_counted : Looped c → length c < most_back c
  loop_counted loop = go (dec_lt (length c) (most_back c))
    where
      go : Dec (length c < most_back c) → length c < most_back c
      go (yes l) = l
      go (no l) = absurd (back_no_loop (omega arith) loop)
