-- Calls one after another, on lent bytes and on the library's own sessions. Assumes nothing.
use Rattle.std.specs.Prelude.{◌≡◌, List, [], ◌∷◌, ℕ, ◌*◌, ◌≤◌, length}
use Rattle.lists.specs.Listed.{listed}
use Rattle.lists.specs.Places.{part}
use Rattle.card_records.specs.Written.{Bytes}
use Rattle.card.specs.declared.Session.{Session}
use Rattle.operations.specs.declared.Engine.{Engine}
use Rattle.operations.specs.declared.Move.{Move}
use Rattle.operations.specs.declared.Move.TheVariants.{Vector}
use Rattle.operations.specs.Operated.{operated}
use Rattle.host_bytes.specs.Layout.{session_length}
use Rattle.host_made.specs.Made.{held, made_again}
use Rattle.host.specs.Calls.{packed, host_move}

-- lent bytes that hold a session
pub record Holding (b : List ℕ) (s : Session) : Type 0 where
  pub room : session_length ≤ length b
  pub bytes : Bytes b
  pub made : made_again b ≡ held s

-- a call: which one, and the bytes that it is given
pub record HostCall : Type 0 where
  pub how : Move
  pub given : List ℕ

-- the bytes and the session that some calls leave, and what each call answers
unfoldable pub bytes_after : List ℕ → List HostCall → List ℕ
bytes_after b [] = b
bytes_after b (c ∷ cs) = bytes_after (host_move c.how b c.given).bytes cs

unfoldable pub session_after : Session → List HostCall → Session
session_after s [] = s
session_after s (c ∷ cs) = session_after (operated c.how s c.given).session cs

unfoldable pub host_answers : List ℕ → List HostCall → List ℕ
host_answers b [] = []
host_answers b (c ∷ cs) = let h = host_move c.how b c.given in h.answer ∷ host_answers h.bytes cs

unfoldable pub library_answers : Session → List HostCall → List ℕ
library_answers s [] = []
library_answers s (c ∷ cs) = let m = operated c.how s c.given in packed m.answer ∷ library_answers m.session cs

-- many vectors of n bytes each, a call by the engine for each
unfoldable pub each_vector : Engine → List ℕ → ℕ → ℕ → List HostCall
each_vector engine vs n k = listed (λ j. record { how = Vector engine; given = part vs (j * n) n }) k
