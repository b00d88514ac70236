use mathlib.Core.Path.{◌≡◌}
use Prim.Native.Nat.{◌+◌, ◌*◌}
use Rattle.card_records.specs.Bytes.{u16_at}
use Rattle.card_records.specs.Inner.Reading.{laid}
use Rattle.card_records.proofs.put_pins.Given as goal

abbrev pub invariant-loop-j : goal.invariant-loop-j
invariant-loop-j l = l.places ≡ laid l.initial.places (l.n * 8) (λ i. u16_at l.s (l.start + 2 * i)) l.j
