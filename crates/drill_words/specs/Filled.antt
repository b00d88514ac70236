-- Lent room of which the front is written: what `hex_into` and `order_into` leave. Assumes nothing.
use Rattle.std.specs.Prelude.{◌≡◌, List, ℕ, ◌≤◌, length, take, drop}

-- n entries at the start of a room are those of a list, and the rest of the room is as it was. `part` follows from `room`; it stands here
-- so that a caller may lend the n entries without a proof
pub record Filled (list old new : List ℕ) (n : ℕ) : Type 0 where
  pub count : n ≡ length list
  pub room : n ≤ length new
  pub part : n ≡ length (take n new)
  pub start : take n new ≡ list
  pub rest : drop n new ≡ drop n old
