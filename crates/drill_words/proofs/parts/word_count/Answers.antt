-- How many words: as many as the parts that the line is split into. Assumes nothing.
use mathlib.Core.Path.{ap, ◌∙◌}
use lib.Dec.{eqb}
use lib.ListN.{length}
use Rattle.std.proofs.Common.{rules}
use borrow.Author.Tests.{tests}
use Rattle.std.proofs.lemmas.Iterator.Consumers.{count_from_yields_List}
use Rattle.std.proofs.lemmas.Iterator.Splits.{YieldsList-from_slice_split}
use Rattle.drill_words.proofs.Parted.{parts_split}
use Rattle.drill_words.proofs.parts.word_count.Goals as goal

pub returns : goal.returns
returns c =
    let line = c.args.line.now in
    let split = c.split.ensures in
    count_from_yields_List _ _ c.count.ensures.ran (YieldsList-from_slice_split _ (λ b. eqb b 32) line split.rest split.done split.closure (λ x b q h. search (rules, tests)))
    ∙ ap length (parts_split 32 line)
