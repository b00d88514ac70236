-- The lines: how long they are, and lines put one after another. Assumes nothing.
use mathlib.Core.Path.{◌≡◌, refl, sym, ap, ◌∙◌}
use mathlib.Core.Bool.{Bool, true, false}
use mathlib.Core.List.{List, [], ◌∷◌, ◌++◌, append-nil}
use Prim.Native.Nat.{ℕ, ◌+◌, ◌^◌, ◌≤◌, ◌<◌}
use native.Mathlib.Omega.{arith}
use native.Mathlib.Numerals.{add-one}
use lib.ListN.{length, length-append}
use mir.Val.{bool_byte}
use Rattle.lists.specs.Entries.{each, from}
use Rattle.lists.specs.Listed.{listed}
use Rattle.lists.proofs.Joined.{from_more, each_append}
use Rattle.lists.proofs.Listed.{length_listed, listed_more}
use Rattle.word.specs.Word.{bit, val}
use Rattle.text.specs.Text.{digit, decimal, numbered}
use Rattle.text.specs.declared.Page.{Page}
use Rattle.text.specs.Inner.Put.{Puts}
use Rattle.text.proofs.Texts.{puts_then, puts_same, decimal_short}
use Rattle.sheet_text.specs.Lines.{blank, lf, values, net_line}

-- a number below 256 has at most 3 digits, one of 64 bits at most 20
pub byte_short : (n after : ℕ) → n < 256 → length (numbered n after) ≤ 4
byte_short n after l = omega (arith, length-append (decimal n) (after ∷ []), decimal_short 2 n (omega arith))

pub word_short : (n after : ℕ) → n < 2 ^ 64 → length (numbered n after) ≤ 21
word_short n after l = omega (arith, length-append (decimal n) (after ∷ []), decimal_short 19 n (omega arith))

pub values_length : (word deep : ℕ) → length (values word deep) ≡ deep + 1
unfolding values
values_length word deep = length_listed (λ t. digit (val (bit word t))) (deep + 1)

pub line_short : (deep net before word flag : ℕ) → deep ≤ 63 → net < 256 → before < 256 → flag < 256 → length (net_line deep net before word flag) ≤ 77
unfolding net_line
line_short deep net before word flag d n b f =
    let last = numbered flag lf in
    let mid = values word deep ++ (blank ∷ []) in
    omega (
      arith,
      length-append (numbered net blank) (numbered before blank ++ (mid ++ last)),
      length-append (numbered before blank) (mid ++ last),
      length-append mid last,
      length-append (values word deep) (blank ∷ []),
      values_length word deep,
      byte_short net blank n,
      byte_short before blank b,
      byte_short flag lf f,
    )

-- a value as a digit
pub digit_is : (b : Bool) → digit (bool_byte b) ≡ digit (val b)
digit_is true = refl
digit_is false = refl

-- one value more
pub values_more : (f : ℕ → ℕ) (t : ℕ) {v : ℕ} {p q r : Page} → v ≡ f t → Puts (listed f t) p q → Puts (v ∷ []) q r → Puts (listed f (t + 1)) p r
values_more f t e x y = puts_same (ap (λ v. listed f t ++ (v ∷ [])) e ∙ sym (listed_more f t)) (puts_then x y)

-- one line more
each_more : (f : ℕ → List ℕ) (k : ℕ) → each f (from 0 (k + 1)) ≡ each f (from 0 k) ++ f k
each_more f k =
    ap (λ n. each f (from 0 n)) (add-one k) ∙ ap (each f) (from_more 0 k) ∙ each_append f (from 0 k) ((0 + k) ∷ [])
    ∙ ap (λ xs. each f (from 0 k) ++ xs) (append-nil (f (0 + k)) ∙ ap f (omega arith))

pub lines_more : (f : ℕ → List ℕ) (k : ℕ) {p q r : Page} → Puts (each f (from 0 k)) p q → Puts (f k) q r → Puts (each f (from 0 (k + 1))) p r
lines_more f k x y = puts_same (sym (each_more f k)) (puts_then x y)
