-- A rested session's arrays hold the rule's histories: its before values and its values. Assumes nothing.
use mathlib.Core.Path.{◌≡◌, ap, ◌∙◌}
use mathlib.Core.Bool.{Bool, true, false}
use Prim.Native.Nat.{ℕ, ◌<◌}
use lib.ListN.{get_or}
use Rattle.lists.proofs.Listed.{listed_at}
use Rattle.word.specs.Word.{bit, word_of}
use Rattle.word.proofs.Words.{bit_word}
use Rattle.rule.specs.Rule.{value}
use Rattle.card.specs.Session.{card_of, word_at, before_at}
use Rattle.card.specs.Held.{HasCard}
use Rattle.card.specs.declared.Session.{Session}
use Rattle.session.specs.Good.{histories, Rested, Good}

-- a rested session holds a card
pub holds : (s : Session) → Good s → s.rested ≡ true → HasCard s
holds s g e = g.card (g.rest e).0

-- the rule's values for its last vector, from the before values
abbrev pub rule_value : (s : Session) → Rested s → ℕ → ℕ → Bool
rule_value s r = value (card_of s) r.old r.new

module _ (s : Session) (h : HasCard s) (r : Rested s) where
  abbrev v : ℕ → ℕ → Bool
  v = rule_value s r

  pub before_is : (n : ℕ) → n < 256 → before_at s n ≡ r.old n
  before_is n l = ap (λ xs. get_or xs n false) r.before_are ∙ listed_at r.old 256 n false l

  pub word_is : (n : ℕ) → n < 256 → word_at s n ≡ word_of 64 (v n)
  unfolding histories
  word_is n l = ap (λ xs. get_or xs n 0) r.words_are ∙ listed_at (λ m. word_of 64 (v m)) 256 n 0 l

  pub value_is : (n t : ℕ) → n < 256 → t < 64 → bit (word_at s n) t ≡ v n t
  value_is n t l b = ap (λ w. bit w t) (word_is n l) ∙ bit_word 64 (v n) t b
