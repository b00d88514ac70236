-- How many entries of a list's front pass a test: the library's count is that of the places. Assumes nothing.
use mathlib.Core.Path.{◌≡◌, refl, sym, ap, ◌∙◌}
use mathlib.Core.Bool.{Bool, true, false}
use mathlib.Core.List.{List}
use Prim.Native.Nat.{ℕ, zero, suc, ◌+◌, ◌≤◌}
use native.Mathlib.Numerals.{add-one}
use native.Mathlib.Omega.{arith}
use lib.ListN.{length, get_or, take}
use Rattle.std.specs.List.{count_by}
use Rattle.std.proofs.lemmas.List.Sums.{count_by_more_yes, count_by_more_no}
use Rattle.word.specs.Word.{val}
use Rattle.word.specs.Times.{count}
use Rattle.word.proofs.Sets.{count_start, count_more}

module _ (p : ℕ → Bool) (xs : List ℕ) where
  abbrev passes : ℕ → Bool
  passes g = p (get_or xs g 0)

  pub counted : (n : ℕ) → n ≤ length xs → count_by p (take n xs) ≡ count passes n
  counted zero l = sym (count_start passes)
  counted (suc n) l = rw add-one at (go (passes n) refl (counted n (omega arith)))
    where
      go : (b : Bool) → passes n ≡ b → count_by p (take n xs) ≡ count passes n → count_by p (take (n + 1) xs) ≡ count passes (n + 1)
      go true e ih = count_by_more_yes p xs n 0 (omega arith) e ∙ count_more passes n _ 1 ih (sym (ap val e))
      go false e ih =
          let x : count_by p (take n xs) ≡ count_by p (take n xs) + 0 = omega arith in
          count_by_more_no p xs n 0 (omega arith) e ∙ x ∙ count_more passes n _ 0 ih (sym (ap val e))
