-- The sessions that the operations leave. Assumes nothing.
-- "A session is one that these operations left, starting from an empty one. A contract may ask of it the rule that the empty one is shown to
-- meet and every operation to keep, and asks nothing else of its caller."
use Rattle.std.specs.Prelude.{◌≡◌, Bool, true, List, ℕ}
use Rattle.lists.specs.Listed.{listed}
use Rattle.word.specs.Word.{word_of}
use Rattle.rule.specs.Net.{Net}
use Rattle.rule.specs.Rule.{value, AtRest}
use Rattle.card.specs.declared.Session.{Session}
use Rattle.card.specs.Session.{card_of}
use Rattle.card.specs.Held.{Carded}

-- the rule's histories, a word a net: "A history covers times 0 to 63."
unfoldable pub histories : List Net → (ℕ → Bool) → (ℕ → Bool) → List ℕ
histories c before new = listed (λ n. word_of 64 (value c before new n)) 256

-- a rested session holds the rule's histories, from settled before values
pub record Rested (s : Session) : Type 0 where
  pub old : ℕ → Bool
  pub new : ℕ → Bool
  pub calm : AtRest (card_of s) old
  pub before_are : s.before ≡ listed old 256
  pub words_are : s.words ≡ histories (card_of s) old new

pub record Good (s : Session) : Type 0 where
  pub card : Carded s
  pub rest : s.rested ≡ true → (s.loaded ≡ true) × Rested s
