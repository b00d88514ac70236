-- Whether a word is `-`: it equals the text of the one byte. Assumes nothing.
use mathlib.Core.Path.{ap, ◌∙◌}
use lib.Dec.{eqb}
use lib.Pointwise.{pointwise}
use Rattle.drill_words.proofs.Spelling.{dash_is}
use Rattle.drill_words.proofs.digits.is_dash.Goals as goal

pub returns : goal.returns
returns c = c.eq.ensures ∙ ap (pointwise eqb c.args.word.now) c.as_slice.ensures ∙ dash_is c.args.word.now
