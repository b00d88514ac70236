-- A digit's value, or 0: what std reads of a byte. Assumes nothing.
use Rattle.drill_words.proofs.Spelling.{nibble_read}
use Rattle.drill_words.proofs.digits.nibble_of.Goals as goal

pub returns : goal.returns
returns c = rw c.unwrap_or.ensures (nibble_read c.args.b c.from.result c.to_digit.result c.from.ensures c.to_digit.ensures.value)
