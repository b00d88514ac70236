-- `text::Page::put_number` meets its contract: a number, and then a byte. Assumes nothing.
use Rattle.text.proofs.Texts.{puts_then}
use Rattle.text.proofs.Page.put_number.Goals as goal

pub returns : goal.returns
returns c = puts_then c.put_decimal.ensures c.put.ensures
