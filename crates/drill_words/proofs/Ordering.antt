-- The laws of an order: std's `all` over its parts, and the entries of its parts as they fill a room. Assumes nothing.
use mathlib.Core.Path.{◌≡◌, refl, sym, ap, ap₂, ◌∙◌, subst}
use mathlib.Core.Bool.{Bool, true, false, cond, ◌&&◌}
use mathlib.Core.List.{List, [], ◌∷◌}
use Prim.Native.Nat.{ℕ, suc, ◌+◌, ◌≤◌, ◌<◌}
use native.Mathlib.Numerals.{add-one}
use lib.ListN.{length, get_or, drop, set, drop_of_length-le}
use lib.Seq.{drop-cons}
use Rattle.std.specs.List.{list_all}
use Rattle.drill_words.specs.Parts.{parts}
use Rattle.drill_words.specs.Digits.{number_spelled, is_dash}
use Rattle.drill_words.specs.Filled.{Filled}
use Rattle.drill_words.specs.Orders.{is_spelled, all_numbers, order_entry, entries, order_spelled}
use Rattle.drill_words.proofs.Filling.{Filling, filling_none, filling_more, filling_all}

pub numbers_all : (ws : List (List ℕ)) → list_all (λ w. is_spelled (number_spelled w)) ws ≡ all_numbers ws
unfolding all_numbers
numbers_all [] = refl
numbers_all (w ∷ ws) = go (is_spelled (number_spelled w)) (numbers_all ws)
  where
    go : (x : Bool) → list_all (λ w. is_spelled (number_spelled w)) ws ≡ all_numbers ws
        → (x && list_all (λ w. is_spelled (number_spelled w)) ws) ≡ cond x (all_numbers ws) false
    go true e = e
    go false e = refl

module _ (w : List ℕ) where
  pub dash_none : (old : List ℕ) → is_dash w ≡ true → Filled (order_spelled w) old old 0
  unfolding order_spelled
  dash_none old h = rw h (filling_all [] old old 0 (filling_none [] old))

  -- the entries from the one of number n on
  abbrev pub others : ℕ → List ℕ
  others n = entries (drop n (parts 44 w))

  pub others_all : (old : List ℕ) → is_dash w ≡ false → Filling (order_spelled w) old old 0 (others 0)
  unfolding order_spelled
  others_all old h = rw h (filling_none (entries (parts 44 w)) old)

  pub others_more : (old new : List ℕ) (n v : ℕ) (p : List ℕ) → n < length (parts 44 w) → p ≡ get_or (parts 44 w) n p → v ≡ order_entry (number_spelled p)
      → n < length new → Filling (order_spelled w) old new n (others n) → Filling (order_spelled w) old (set new n v) (n + 1) (others (n + 1))
  others_more old new n v p l e t r f =
      let d : drop n (parts 44 w) ≡ get_or (parts 44 w) n p ∷ drop (suc n) (parts 44 w) = drop-cons (parts 44 w) n p l in
      let o : others n ≡ v ∷ others (n + 1) =
      ap entries d ∙ ap₂ (λ q m. order_entry (number_spelled q) ∷ entries (drop m (parts 44 w))) (sym e) (sym (add-one n)) ∙ ap (λ x. x ∷ others (n + 1)) (sym t) in
      filling_more (order_spelled w) old new n v (others (n + 1)) r (subst (Filling (order_spelled w) old new n) o f)

  pub others_none : (old new : List ℕ) (n : ℕ) → length (parts 44 w) ≤ n → Filling (order_spelled w) old new n (others n) → Filled (order_spelled w) old new n
  others_none old new n l f = filling_all (order_spelled w) old new n (subst (λ ps. Filling (order_spelled w) old new n (entries ps)) (drop_of_length-le (parts 44 w) l) f)
