-- When reading stops: after some legal nets the next record is none. "Load, record by record: head (1), kind and length (2), body present
-- (1), body's contents (2), room (3)"; "bytes after the end record" (8). Assumes nothing.
use Rattle.std.specs.Prelude.{◌≡◌, true, false, List, [], ◌++◌, ℕ, ◌+◌, ◌≤◌, ◌<◌, length, get_or}
use Rattle.lists.specs.Entries.{each}
use Rattle.rule.specs.Net.{Net}
use Rattle.rule.specs.declared.Refusal.{Refusal}
use Rattle.rule.specs.declared.Refusal.TheVariants.{CutShort, BadRecord, TooManyNets, BytesAfter}
use Rattle.card_records.specs.Bytes.{u16_at, kind_fits, body_fits}
use Rattle.card_records.specs.Written.{net_bytes, end_bytes, Legal, AllLegal}

-- `rest` are the bytes from there on, after so many nets
pub data StopsAt (rest : List ℕ) (nets : ℕ) : Refusal → Type 0 where
  -- input ends inside a head, or before an end record
  no_head : length rest < 4 → StopsAt rest nets CutShort
  -- kind unknown, length wrong for the kind
  bad_head : 4 ≤ length rest → kind_fits (u16_at rest 2) (u16_at rest 0) ≡ false → StopsAt rest nets BadRecord
  -- input ends inside a body
  no_body : 4 ≤ length rest → kind_fits (u16_at rest 2) (u16_at rest 0) ≡ true → length rest < 4 + u16_at rest 0 → StopsAt rest nets CutShort
  -- constant not 0 or 1, gate type unknown, pin count wrong for the type
  bad_body : 4 + u16_at rest 0 ≤ length rest → kind_fits (u16_at rest 2) (u16_at rest 0) ≡ true → body_fits (u16_at rest 2) (u16_at rest 0) (get_or rest 4 0) ≡ false
      → StopsAt rest nets BadRecord
  -- a 257th net
  no_room : (w : Net) (later : List ℕ) → Legal w → rest ≡ net_bytes w ++ later → nets ≡ 256 → StopsAt rest nets TooManyNets
  -- bytes after the end record
  after : (later : List ℕ) → rest ≡ end_bytes ++ later → ¬ (later ≡ []) → StopsAt rest nets BytesAfter

pub record Stopped (s : List ℕ) (why : Refusal) : Type 0 where
  pub nets : List Net
  pub legal : AllLegal nets
  pub few : length nets ≤ 256
  pub rest : List ℕ
  pub split : s ≡ each net_bytes nets ++ rest
  pub stops : StopsAt rest (length nets) why
