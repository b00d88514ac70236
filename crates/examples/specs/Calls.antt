-- Calls one after another from the empty session, and what each hands back: the operations by their own definitions, and the sheet program.
-- Assumes nothing.
use Rattle.std.specs.Prelude.{List, [], ◌∷◌, ℕ, replicate}
use Rattle.card.specs.declared.Session.{Session}
use Rattle.sheet_text.specs.Sheet.{sheet_of}
use Rattle.demands.specs.Operations.{Operation, Outcome, outcome}

-- an operation, or the sheet program on a session file
pub data Call : Type 0 where
  does : Operation → Call
  print : List ℕ → Call

-- the number, the count, and every lent room of numbers after the call; of a question about a net its level and word, of the sheet program what it prints
pub record Reply : Type 0 where
  pub number : ℕ
  pub count : ℕ
  pub level : ℕ
  pub word : ℕ
  pub rooms : List (List ℕ)

abbrev pub replied : Outcome → Reply
replied o = record { number = o.number; count = o.count; level = o.level; word = o.word; rooms = o.lent.numbers }

abbrev pub printed : List ℕ → Reply
printed text = record { number = 0; count = 0; level = 0; word = 0; rooms = text ∷ [] }

-- lent room before a call
abbrev pub lent : ℕ → List ℕ
lent n = replicate n 170

-- calls one after another
unfoldable pub replies : Session → List Call → List Reply
replies s [] = []
replies s (does o ∷ cs) = let r = outcome s o in replied r ∷ replies r.session cs
replies s (print file ∷ cs) = printed (sheet_of file) ∷ replies s cs
