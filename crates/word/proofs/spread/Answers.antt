use Rattle.word.proofs.Bits.{bit_none, bit_ones}
use mathlib.Core.Path.{sym, ◌∙◌}
use Rattle.word.proofs.spread.Goals as goal

pub returns-then-b : goal.returns-then-b
returns-then-b c t l = bit_ones 64 t l ∙ sym c.if-b.true

pub returns-else-b : goal.returns-else-b
returns-else-b c t l = bit_none t ∙ sym c.if-b.false
