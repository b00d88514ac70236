-- `fields::open_word` meets its contract: a word whose bits are all the open pin's value. Assumes nothing.
use mathlib.Core.Path.{◌∙◌}
use native.Mathlib.Omega.{arith}
use Rattle.word.proofs.Words.{is_word}
use Rattle.fields.proofs.open_word.Goals as goal

pub returns : goal.returns
returns c = is_word 64 _ c.spread.result (omega (arith, c.spread.type_inv)) (λ t l. c.spread.ensures t l ∙ c.open_value.ensures)
