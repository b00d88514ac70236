-- No card is longer than the room that lent bytes have for it. Assumes nothing.
use mathlib.Core.List.{List}
use Prim.Native.Nat.{◌≤◌}
use native.Mathlib.Omega.{arith}
use lib.ListN.{length}
use Rattle.rule.specs.Net.{Net}
use Rattle.card_records.specs.Written.{card_bytes}
use Rattle.card_records.proofs.Sizes.{card_long}
use Rattle.card.specs.Allowed.{Legible}
use Rattle.host_bytes.specs.Layout.{longest_card}

-- "1 to 256 nets", "gates of at most 8 pins": no card is longer than the longest
pub card_size : (c : List Net) → Legible c → length (card_bytes c) ≤ longest_card
card_size c l = omega (arith, card_long c l.legal, l.few)
