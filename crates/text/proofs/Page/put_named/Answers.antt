-- `text::Page::put_named` meets its contract: a word, and then a number with its byte. Assumes nothing.
use Rattle.text.proofs.Texts.{puts_then}
use Rattle.text.proofs.Page.put_named.Goals as goal

pub returns : goal.returns
returns c = puts_then c.put_word.ensures c.put_number.ensures
