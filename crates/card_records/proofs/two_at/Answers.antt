-- Two bytes, the low one first: `u16_at`, by arithmetic over the two bytes read. Assumes nothing.
use native.Mathlib.Omega.{arith}
use Rattle.card_records.specs.Bytes.{u16_at}
use Rattle.card_records.proofs.two_at.Goals as goal

pub returns : goal.returns
unfolding u16_at
returns c = omega arith
