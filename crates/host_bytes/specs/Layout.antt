-- Where the parts of a session stand in lent bytes. Assumes nothing.
--
--     byte 0               what is kept: 0 nothing, 1 a card, 2 a card at rest, 3 a card that a vector moved by fields, 4 by steps
--     bytes 1, 2           the length of the card's bytes, low byte first
--     older_at .. last_at    the vector before the last one, at most 256 bytes
--     last_at .. card_at     the last vector, at most 256 bytes
--     card_at .. card_to     the card's own bytes, at most as many as the longest card has
--
-- Each part is 0 past what it holds. The card's is the last: a further one behind it would make the session longer and move no other.
use Rattle.std.specs.Prelude.{ℕ, ◌+◌}

abbrev pub older_at : ℕ
older_at = 3

abbrev pub last_at : ℕ
last_at = older_at + 256

abbrev pub card_at : ℕ
card_at = last_at + 256

-- 21 bytes for each of 256 nets, and 4 for the end
abbrev pub longest_card : ℕ
longest_card = 5380

abbrev pub card_to : ℕ
card_to = card_at + longest_card

abbrev pub session_length : ℕ
session_length = card_to
