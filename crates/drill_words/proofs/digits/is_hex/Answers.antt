-- Whether a word is bytes in hex: `is_hex`, at the tests that led there. Assumes nothing.
use mathlib.Core.Path.{sym, ◌∙◌}
use native.Mathlib.Omega.{arith}
use Rattle.std.proofs.lemmas.Grind.{common_steps}
use Rattle.std.proofs.lemmas.Bool.Decides.{nat_tests}
use Rattle.drill_words.specs.Digits.{is_hex}
use Rattle.drill_words.proofs.digits.is_hex.Goals as goal
use Rattle.drill_words.proofs.digits.is_hex.Goals.{then-not-is_empty, else-not-is_empty}

pub returns-then-is_dash : goal.returns-then-is_dash
unfolding is_hex
returns-then-is_dash c = c.if-is_dash.true ∙ rw (sym c.is_dash.ensures ∙ c.if-is_dash.true)

pub returns-then-word-eq0 : goal.returns-then-word-eq0
unfolding is_hex
returns-then-word-eq0 c = grind (arith, common_steps, nat_tests)

pub returns-else-word-eq0 : goal.returns-else-word-eq0
unfolding is_hex
returns-else-word-eq0 c = grind (arith, common_steps, nat_tests)
