-- The changes of a net: what is one, and how they are counted along the times. Assumes nothing.
use mathlib.Core.Path.{◌≡◌, refl, ◌∙◌}
use mathlib.Core.Bool.{Bool, true, false, not, beq}
use Prim.Native.Nat.{ℕ, ◌+◌}
use native.Mathlib.Numerals.{add-one}
use Rattle.word.specs.Word.{val, differ, moved_up}
use Rattle.word.specs.Times.{count}
use Rattle.word.proofs.Sets.{count_more}
use Rattle.rule.specs.Flag.{changed_at}

-- `a ^ b`
pub differ_is : (a b : Bool) → not (beq a b) ≡ differ a b
differ_is true true = refl
differ_is true false = refl
differ_is false true = refl
differ_is false false = refl

-- a net's value one unit later
pub one_later : (b : Bool) (f : ℕ → Bool) (t : ℕ) → moved_up b f (t + 1) ≡ f t
one_later b f t = rw (add-one t)

-- one time more: the value there and the last one tell whether it is a change
pub changes_more : (b : Bool) (f : ℕ → Bool) (t n k : ℕ) (value last : Bool) → n ≡ count (changed_at b f) t → last ≡ moved_up b f t → value ≡ f t → k ≡ val (not (beq value last))
    → n + k ≡ count (changed_at b f) (t + 1)
changes_more b f t n k value last en el ev ek = count_more (changed_at b f) t n k en (ek ∙ rw (ev, el, differ_is (f t) (moved_up b f t)))
