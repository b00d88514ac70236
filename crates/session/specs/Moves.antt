-- Rest and a vector by fields: what they leave, for every session and every vector. Assumes nothing.
use Rattle.std.specs.Prelude.{Bool, true, false, cond, List, ℕ, get_or}
use Rattle.lists.specs.Listed.{listed}
use Rattle.word.specs.Word.{bit, word_of, is_one}
use Rattle.word.specs.Times.{count}
use Rattle.rule.specs.Net.{Net, net_at, is_input}
use Rattle.rule.specs.Rule.{value}
use Rattle.rule.specs.declared.Refusal.{Refusal}
use Rattle.std.specs.Prelude.{Ok, Err}
use Rattle.rule.specs.Answers.{Verdict}
use Rattle.inputs.specs.Inputs.{given, vector_judged}
use Rattle.card.specs.declared.Session.{Session}
use Rattle.card.specs.Session.{card_of, word_at, resting}
use Rattle.session.specs.Moved.{Moved}
use Rattle.session.specs.Good.{histories}

-- the value that a vector gives net n of a card: input j's is byte j; only inputs are given any
unfoldable pub given_to : List Net → List ℕ → ℕ → Bool
given_to c v n = cond (is_input (net_at c n)) (is_one (get_or v (count (λ m. is_input (net_at c m)) n) 0)) false

abbrev pub refused_move : Session → Refusal → Moved
refused_move s why = record { answer = Err why; session = s }

-- done with a count, or refused for its vector
abbrev pub moving : Session → Verdict → ℕ → Session → Moved
moving s (Err why) count next = refused_move s why
moving s (Ok _) count next = record { answer = Ok count; session = next }

-- "The value at 63 is the next before value."
unfoldable pub ends : Session → ℕ → Bool
ends s n = bit (word_at s n) 63

-- a vector moves a session: the histories are the rule's, from the last vector's end
unfoldable pub moved_by : Session → (ℕ → Bool) → Session
moved_by s new = resting s s.rested (listed (ends s) 256) (histories (card_of s) (ends s) new)

-- "Vector by either engine: 12, 10, 11."
unfoldable pub vector_of : Session → List ℕ → Moved
vector_of s v = moving s (vector_judged s.rested s.inputs v) 0 (moved_by s (given s.kinds v))

-- the settled value of every net: what it has at time 63, from zeros; any other start gives the same (`rest_only`)
unfoldable pub settled : List Net → (ℕ → Bool) → ℕ → Bool
settled c new n = value c (λ m. false) new n 63

-- "After a rest the history is flat and equals the before values. A second rest starts afresh."
unfoldable pub rested_by : Session → (ℕ → Bool) → Session
rested_by s new = resting s true (listed (settled (card_of s) new) 256) (listed (λ n. word_of 64 (λ t. settled (card_of s) new n)) 256)

-- "Rest: 12 (card only), 10, 11."
unfoldable pub rest_of : Session → List ℕ → Moved
rest_of s v = moving s (vector_judged s.loaded s.inputs v) 0 (rested_by s (given s.kinds v))
