-- The laws of a line: what so many words ask for. Assumes nothing.
use mathlib.Core.Path.{◌≡◌, refl, ◌∙◌}
use mathlib.Core.List.{List, [], ◌∷◌}
use Prim.Native.Nat.{ℕ, ◌≤◌, ◌<◌}
use native.Mathlib.Omega.{arith}
use lib.ListN.{length, get_or}
use borrow.Author.Tests.{lt-ltb, le-ltb}
use Rattle.std.specs.Prelude.{Option, None}
use Rattle.drill_text.specs.declared.Command.{Command}
use Rattle.drill_words.specs.Parts.{words}
use Rattle.drill_text.specs.Lines.{with_one, with_two, with_three, with_four, asked, command_of}

-- what so many words ask for

asked_two : (ws : List (List ℕ)) → length ws ≡ 2 → with_one (get_or ws 0 []) (get_or ws 1 []) ≡ asked ws
unfolding asked
asked_two [] e = absurd (omega arith)
asked_two (n ∷ []) e = absurd (omega arith)
asked_two (n ∷ a ∷ []) e = refl
asked_two (n ∷ a ∷ b ∷ ws) e = absurd (omega arith)

asked_three : (ws : List (List ℕ)) → length ws ≡ 3 → with_two (get_or ws 0 []) (get_or ws 1 []) (get_or ws 2 []) ≡ asked ws
unfolding asked
asked_three [] e = absurd (omega arith)
asked_three (n ∷ []) e = absurd (omega arith)
asked_three (n ∷ a ∷ []) e = absurd (omega arith)
asked_three (n ∷ a ∷ b ∷ []) e = refl
asked_three (n ∷ a ∷ b ∷ c ∷ ws) e = absurd (omega arith)

asked_four : (ws : List (List ℕ)) → length ws ≡ 4 → with_three (get_or ws 0 []) (get_or ws 1 []) (get_or ws 2 []) (get_or ws 3 []) ≡ asked ws
unfolding asked
asked_four [] e = absurd (omega arith)
asked_four (n ∷ []) e = absurd (omega arith)
asked_four (n ∷ a ∷ []) e = absurd (omega arith)
asked_four (n ∷ a ∷ b ∷ []) e = absurd (omega arith)
asked_four (n ∷ a ∷ b ∷ c ∷ []) e = refl
asked_four (n ∷ a ∷ b ∷ c ∷ d ∷ ws) e = absurd (omega arith)

asked_five : (ws : List (List ℕ)) → length ws ≡ 5 → with_four (get_or ws 0 []) (get_or ws 1 []) (get_or ws 2 []) (get_or ws 3 []) (get_or ws 4 []) ≡ asked ws
unfolding asked
asked_five [] e = absurd (omega arith)
asked_five (n ∷ []) e = absurd (omega arith)
asked_five (n ∷ a ∷ []) e = absurd (omega arith)
asked_five (n ∷ a ∷ b ∷ []) e = absurd (omega arith)
asked_five (n ∷ a ∷ b ∷ c ∷ []) e = absurd (omega arith)
asked_five (n ∷ a ∷ b ∷ c ∷ d ∷ []) e = refl
asked_five (n ∷ a ∷ b ∷ c ∷ d ∷ x ∷ ws) e = absurd (omega arith)

asked_other : (ws : List (List ℕ)) → (length ws ≡ 2 → ⊥) → (length ws ≡ 3 → ⊥) → (length ws ≡ 4 → ⊥) → (length ws ≡ 5 → ⊥) → ◌≡◌ {A = Option Command} None (asked ws)
unfolding asked
asked_other [] p q r s = refl
asked_other (n ∷ []) p q r s = refl
asked_other (n ∷ a ∷ []) p q r s = absurd (p refl)
asked_other (n ∷ a ∷ b ∷ []) p q r s = absurd (q refl)
asked_other (n ∷ a ∷ b ∷ c ∷ []) p q r s = absurd (r refl)
asked_other (n ∷ a ∷ b ∷ c ∷ d ∷ []) p q r s = absurd (s refl)
asked_other (n ∷ a ∷ b ∷ c ∷ d ∷ x ∷ ws) p q r s = refl

-- and a line of so many words

pub line_long : (line : List ℕ) → 140000 < length line → ◌≡◌ {A = Option Command} None (command_of line)
unfolding command_of
line_long line l = rw (lt-ltb 140000 (length line) l)

module _ (line : List ℕ) (l : length line ≤ 140000) where
  short : asked (words line) ≡ command_of line
  unfolding command_of
  short = rw (le-ltb 140000 (length line) l)

  abbrev Word : ℕ → List ℕ → Type 0
  Word k w = w ≡ get_or (words line) k []

  pub line_two : (n a : List ℕ) → Word 0 n → Word 1 a → length (words line) ≡ 2 → with_one n a ≡ command_of line
  line_two n a p q e = rw (p, q) (asked_two (words line) e ∙ short)

  pub line_three : (n a b : List ℕ) → Word 0 n → Word 1 a → Word 2 b → length (words line) ≡ 3 → with_two n a b ≡ command_of line
  line_three n a b p q r e = rw (p, q, r) (asked_three (words line) e ∙ short)

  pub line_four : (n a b c : List ℕ) → Word 0 n → Word 1 a → Word 2 b → Word 3 c → length (words line) ≡ 4 → with_three n a b c ≡ command_of line
  line_four n a b c p q r s e = rw (p, q, r, s) (asked_four (words line) e ∙ short)

  pub line_five : (n a b c d : List ℕ) → Word 0 n → Word 1 a → Word 2 b → Word 3 c → Word 4 d → length (words line) ≡ 5 → with_four n a b c d ≡ command_of line
  line_five n a b c d p q r s t e = rw (p, q, r, s, t) (asked_five (words line) e ∙ short)

  pub line_other : (k : ℕ) → k ≡ length (words line) → (k ≡ 2 → ⊥) → (k ≡ 3 → ⊥) → (k ≡ 4 → ⊥) → (k ≡ 5 → ⊥) → ◌≡◌ {A = Option Command} None (command_of line)
  line_other k e p q r s = asked_other (words line) (λ x. p (e ∙ x)) (λ x. q (e ∙ x)) (λ x. r (e ∙ x)) (λ x. s (e ∙ x)) ∙ short
