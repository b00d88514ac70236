-- Inner: cited by contracts between functions alone, and by laws. What the program keeps between two lines. Every operation keeps it: `operated_good`
-- (operations/proofs/Kept.antt). Assumes nothing.
use Rattle.std.specs.Prelude.{cond, ℕ, ltb}
use Rattle.card.specs.declared.Session.{Session}
use Rattle.session.specs.Good.{Good}

-- the rule of sessions that the operations ask for
abbrev pub Kept : Session → Type 0
Kept s = Good s

-- where the next byte goes in the room: a full one starts again
abbrev pub slot : ℕ → ℕ
slot at = cond (ltb at 8192) at 0
