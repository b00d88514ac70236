-- Inner: cited by contracts between functions alone, and by laws. A record's kind by its number. They agree: `named`, `named_number`
-- (card_records/proofs/Named.antt). Assumes nothing.
use Rattle.std.specs.Prelude.{cond, ℕ, eqb, Result, Ok, Err}
use Rattle.card_records.specs.declared.Fault.{Fault}
use Rattle.card_records.specs.declared.Fault.TheVariants.{BadHead}
use Rattle.card_records.specs.declared.Kind.{Kind}
use Rattle.card_records.specs.declared.Kind.TheVariants.{Input, Constant, Gate, End}

-- "1 input, 2 constant, 3 gate, 4 end"
abbrev pub kind_number : Kind → ℕ
kind_number Input = 1
kind_number Constant = 2
kind_number Gate = 3
kind_number End = 4

-- the kind of a number; no other number is known here
unfoldable pub kind_named : ℕ → Result Kind Fault
kind_named n = cond (eqb n 1) (Ok Input) (cond (eqb n 2) (Ok Constant) (cond (eqb n 3) (Ok Gate) (cond (eqb n 4) (Ok End) (Err BadHead))))
