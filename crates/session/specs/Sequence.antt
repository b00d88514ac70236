-- Vectors one after another: on a session, and by the rule alone. Assumes nothing.
use Rattle.std.specs.Prelude.{Bool, List, [], ◌∷◌, ℕ}
use Rattle.rule.specs.Net.{Net}
use Rattle.rule.specs.Rule.{value}
use Rattle.card.specs.declared.Session.{Session}
use Rattle.session.specs.Moves.{given_to, vector_of}

-- the session that some vectors leave, each handed to the session that the one before left
unfoldable pub after : Session → List (List ℕ) → Session
after s [] = s
after s (v ∷ vs) = after (vector_of s v).session vs

-- the before values that some vectors leave on a card, from given ones. "The value at 63 is the next before value."
unfoldable pub state_after : List Net → (ℕ → Bool) → List (List ℕ) → ℕ → Bool
state_after c before [] = before
state_after c before (v ∷ vs) = state_after c (λ n. value c before (given_to c v) n 63) vs
