-- Gates counted backwards over arrays: the highest of one more, a sweep, and that a sweep that changes nothing is the last. Assumes nothing.
use mathlib.Core.Path.{◌≡◌, refl, sym, ap, ◌∙◌}
use mathlib.Core.Bool.{true}
use mathlib.Core.List.{List, [], ◌∷◌, ◌++◌, map, map-append}
use Prim.Native.Nat.{ℕ, zero, suc, ◌+◌, ◌-◌, ◌≤◌, ◌<◌, max}
use native.Mathlib.Nat.{zero-add}
use native.Mathlib.Numerals.{add-one}
use native.Mathlib.Omega.{arith}
use native.Mathlib.Decide.{dec_lt}
use lib.ListN.{length, get_or, take, replicate}
use borrow.Author.Tests.{lt-ltb, le-ltb}
use Rattle.std.specs.Prelude.{fold}
use Rattle.std.proofs.lemmas.List.{take_more}
use Rattle.lists.specs.Entries.{from}
use Rattle.lists.specs.Listed.{listed, upto}
use Rattle.lists.proofs.Joined.{from_more}
use Rattle.lists.proofs.Listed.{listed_at, listed_ext, listed_all, listed_same}
use Rattle.rule.specs.Net.{open_pin, at_pin}
use Rattle.rule.specs.Level.{most, over, longest}
use Rattle.rule.proofs.Levels.{back_le, longest_start, longest_more, longest_none, longest_stays}
use Rattle.rule.proofs.Nets.{open_is}
use Rattle.card_wiring.specs.Layout.{pins_at}
use Rattle.card_wiring.specs.Inner.Wires.{Wires, all_fit, backs, highest}
use Rattle.card_wiring.proofs.Pins.{map_entry, fitting, pins_read, no_pins}

-- The highest of one more

most_end : (xs : List ℕ) (x : ℕ) → most (xs ++ (x ∷ [])) ≡ max (most xs) x
most_end [] x = omega arith
most_end (y ∷ xs) x = let h = most_end xs x in omega arith

over_end : (xs : List ℕ) (x : ℕ) → over 1 (xs ++ (x ∷ [])) ≡ max (over 1 xs) (x + 1)
over_end [] x = omega arith
over_end (y ∷ xs) x = let h = most_end xs x in omega arith

-- one entry more of a list that is gone through
pub over_entry : (f : ℕ → ℕ) (xs : List ℕ) (i : ℕ) → i < length xs → over 1 (map f (take (i + 1) xs)) ≡ max (over 1 (map f (take i xs))) (f (get_or xs i 0) + 1)
over_entry f xs i l = ap (over 1) (map_entry f xs i 0 l) ∙ over_end (map f (take i xs)) (f (get_or xs i 0))

-- the highest, as the library goes through a list
pub most_fold : (xs : List ℕ) (a : ℕ) → fold max a xs ≡ max a (most xs)
most_fold [] a = omega arith
most_fold (x ∷ xs) a = let h = most_fold xs (max a x) in omega arith

pub highest_more : (levels : List ℕ) (g : ℕ) → highest levels (g + 1) ≡ max (highest levels g) (get_or levels g 0)
highest_more levels g =
    rw (add-one g)
    (ap (λ gs. most (map (λ m. get_or levels m 0) gs)) (from_more 0 g)
    ∙ ap most (map-append (λ m. get_or levels m 0) (from 0 g) ((0 + g) ∷ []))
    ∙ most_end (map (λ m. get_or levels m 0) (from 0 g)) (get_or levels (0 + g) 0)
    ∙ rw (zero-add g))

-- the first of a list, and the highest of them
highest_front : (levels : List ℕ) (n : ℕ) → n ≤ length levels → most (take n levels) ≡ highest levels n
highest_front levels zero l = refl
highest_front levels (suc n) l =
    let more : most (take (suc n) levels) ≡ most (take n levels ++ (get_or levels n 0 ∷ [])) = rw (← add-one n) (ap most (take_more levels n 0 (omega arith))) in
    let high : highest levels (suc n) ≡ max (highest levels n) (get_or levels n 0) = rw (add-one n) at (highest_more levels n) in
    more ∙ most_end (take n levels) (get_or levels n 0) ∙ omega (arith, highest_front levels n (omega arith))

pub highest_fold : (levels : List ℕ) (n : ℕ) → n ≤ length levels → fold max 0 (take n levels) ≡ highest levels n
highest_fold levels n l = most_fold (take n levels) 0 ∙ omega (arith, highest_front levels n l)

-- no more gates than may be followed
pub backs_le : (counts places : List ℕ) (k i : ℕ) → get_or (backs (λ g. 1) counts places k) i 0 ≤ k
backs_le counts places k i = listed_all (λ x. x ≤ k) (longest (λ g. 1) (pins_at counts places) k) 256 i 0 (back_le (pins_at counts places) k i) (omega arith)

pub backs_none : (w : ℕ → ℕ) (counts places : List ℕ) → replicate 256 0 ≡ backs w counts places 0
backs_none w counts places = listed_same 0 256 ∙ listed_ext (λ g. 0) _ 256 (λ g b. sym (longest_start (pins_at counts places) w g))

-- Sweeps, by any weights

module _ (w : ℕ → ℕ) (counts places : List ℕ) (n : ℕ) (wires : Wires counts places n) where
  abbrev back : ℕ → ℕ → ℕ
  back = longest w (pins_at counts places)

  past_none : (k g : ℕ) → n ≤ g → back k g ≡ 0
  past_none k g l = longest_none (pins_at counts places) w k g (no_pins counts places n g wires l)

  -- past the card's nets there is nothing to follow
  pub over_front : (f : ℕ → ℕ) → listed (upto (λ g. over 1 (map f (pins_at counts places g))) (λ g. 0) n) 256 ≡ listed (λ g. over 1 (map f (pins_at counts places g))) 256
  over_front f = listed_ext _ _ 256 (λ g b. go g (dec_lt g n))
    where
      go : (g : ℕ) → Dec (g < n) → upto (λ g. over 1 (map f (pins_at counts places g))) (λ g. 0) n g ≡ over 1 (map f (pins_at counts places g))
      go g (yes l) = rw (lt-ltb g n l)
      go g (no l) = rw (le-ltb g n (omega arith), no_pins counts places n g wires (omega arith))

  -- one net more is swept; all of them
  swept : (k g : ℕ) (old : List ℕ) → all_fit counts places n ≡ true → old ≡ backs w counts places k
      → over (w g) (map (at_pin 0 (λ m. get_or old m 0)) (pins_at counts places g)) ≡ back (k + 1) g
  swept k g old fits e =
      let few = wires.few in
      rw (add-one k, longest_more (pins_at counts places) w k g, e)
      (ap (over (w g)) (pins_read (back k) 0 n (pins_at counts places g) few (fitting counts places n wires fits g) (past_none k open_pin (omega (arith, open_is)))))

  pub all_swept : (k : ℕ) (old : List ℕ) → all_fit counts places n ≡ true → old ≡ backs w counts places k
      → listed (λ g. over (w g) (map (at_pin 0 (λ m. get_or old m 0)) (pins_at counts places g))) 256 ≡ backs w counts places (k + 1)
  all_swept k old fits e = listed_ext _ (back (k + 1)) 256 (λ g b. swept k g old fits e)

  -- a sweep that changes nothing is the last
  pub sweeps_end : (k j : ℕ) → backs w counts places k ≡ backs w counts places (k + 1) → k ≤ j → backs w counts places k ≡ backs w counts places j
  sweeps_end k j e l =
      let x : k + (j - k) ≡ j = omega arith in
      listed_ext (back k) (back j) 256 (λ g b. sym (rw x at (longest_stays (pins_at counts places) w k unchanged (j - k) g)))
    where
      unchanged : (g : ℕ) → back (suc k) g ≡ back k g
      unchanged g = go (dec_lt g 256)
        where
          go : Dec (g < 256) → back (suc k) g ≡ back k g
          go (yes b) = rw (← add-one k) (sym (listed_at (back (k + 1)) 256 g 0 b) ∙ ap (λ xs. get_or xs g 0) (sym e) ∙ listed_at (back k) 256 g 0 b)
          go (no b) = let few = wires.few in past_none (suc k) g (omega arith) ∙ sym (past_none k g (omega arith))
