-- The host's calls: what each answers and leaves, for any bytes. Assumes nothing.
use Rattle.std.specs.Prelude.{cond, List, ℕ, ◌+◌, ◌*◌, ◌%◌, ltb, length, Result, Ok, Err, ok_or}
use Rattle.rule.specs.declared.Refusal.{Refusal}
use Rattle.rule.specs.declared.Refusal.TheVariants.{NotReady, NoRoom}
use Rattle.rule.specs.Answers.{Answer}
use Rattle.rule.specs.Numbers.{answer_number, answer_count}
use Rattle.card.specs.declared.Session.{Session}
use Rattle.history.specs.Told.{history_of}
use Rattle.operations.specs.declared.Move.{Move}
use Rattle.operations.specs.Operated.{operated}
use Rattle.host_bytes.specs.Layout.{session_length}
use Rattle.host_bytes.specs.Kept.{kept_by}
use Rattle.host_made.specs.Made.{made_again}

-- an answer as one number: the paper's number, and 256 times the count. "With 0 comes a count." No count is over 4,096 (`packed_plain`)
unfoldable pub packed : Answer → ℕ
packed a = answer_number a + 256 * (answer_count a % 65536)

-- what a call answers, and the lent bytes after it
pub record Hosted : Type 0 where
  pub answer : ℕ
  pub bytes : List ℕ

abbrev pub left_by : Move → Answer → List ℕ → List ℕ → Hosted
left_by how (Err why) b v = record { answer = packed (Err why); bytes = b }
left_by how (Ok count) b v = record { answer = packed (Ok count); bytes = kept_by how b v }

-- the session that lent bytes hold: 18 for a slice that is too short ("lent room too short"), 12 for bytes that no call left ("no card")
unfoldable pub session_in : List ℕ → Result Session Refusal
session_in b = cond (ltb (length b) session_length) (Err NoRoom) (ok_or (made_again b) NotReady)

abbrev pub move_in : Move → List ℕ → List ℕ → Result Session Refusal → Hosted
move_in how b v (Err why) = record { answer = packed (Err why); bytes = b }
move_in how b v (Ok s) = left_by how (operated how s v).answer b v

-- "A host program in C or Rust calls the library for load, rest, vector and history": 18, 12, and then as the operation. "Every refusal returns its number and
-- count 0, and changes neither session nor lent memory."
unfoldable pub host_move : Move → List ℕ → List ℕ → Hosted
host_move how b v = move_in how b v (session_in b)

pub record Shown : Type 0 where
  pub answer : ℕ
  pub words : List ℕ
  pub befores : List ℕ
  pub flags : List ℕ

abbrev pub history_in : List ℕ → List ℕ → List ℕ → Result Session Refusal → Shown
history_in words befores flags (Err why) = record { answer = packed (Err why); words = words; befores = befores; flags = flags }
history_in words befores flags (Ok s) =
    let h = history_of s words befores flags in record { answer = packed h.answer; words = h.words; befores = h.befores; flags = h.flags }

unfoldable pub host_history : List ℕ → List ℕ → List ℕ → List ℕ → Shown
host_history b words befores flags = history_in words befores flags (session_in b)
