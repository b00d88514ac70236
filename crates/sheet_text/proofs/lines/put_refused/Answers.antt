-- `sheet_text::lines::put_refused` meets its contract: a refusal's number is below 256. Assumes nothing.
use mathlib.Core.Path.{◌∙◌, ap}
use native.Mathlib.Omega.{arith}
use Rattle.std.proofs.Common.{rules}
use Rattle.text.specs.Text.{named}
use Rattle.text.proofs.Texts.{puts_same, put_lent}
use Rattle.sheet_text.specs.Lines.{lf, refused_word, refused_line}
use Rattle.sheet_text.proofs.Lengths.{byte_short}
use Rattle.sheet_text.proofs.lines.put_refused.Goals as goal

pub put_named-requires : goal.put_named-requires
put_named-requires c = omega (arith, c.new-page.ensures.front, byte_short c.from-2.result lf (omega arith))

pub returns : goal.returns
unfolding refused_line
returns c =
    let page = c.new-page.ensures in
    put_lent page.same_room page.as_it_was page.front
    (puts_same (ap (λ n. named refused_word n lf) (c.from-2.ensures ∙ c.from.ensures)) c.put_named.ensures)
    (λ e. search rules)
