-- The word of number k: the part of that number that the line is split into. Assumes nothing.
use mathlib.Core.Path.{refl, ap, ◌∙◌}
use mathlib.Core.List.{[]}
use native.Mathlib.Omega.{arith}
use lib.Dec.{eqb}
use lib.ListN.{length, get_or}
use Rattle.std.proofs.Common.{rules}
use borrow.Author.Tests.{tests}
use Rattle.std.proofs.lemmas.Iterator.Consumers.{nth_from_yields_List}
use Rattle.std.proofs.lemmas.Iterator.Splits.{YieldsList-from_slice_split}
use Rattle.drill_words.proofs.Parted.{parts_split, part_short, part_is}
use Rattle.drill_words.proofs.parts.word.Goals as goal

pub returns : goal.returns
returns c =
    let line = c.args.line.now in
    let k = c.args.k in
    let split = c.split.ensures in
    let got = nth_from_yields_List _ _ k c.nth.ensures.ran (YieldsList-from_slice_split _ (λ b. eqb b 32) line split.rest split.done split.closure (λ x b q h. search (rules, tests))) in
    let e = ap (λ x. x.now) c.unwrap_or.ensures ∙ part_is c.nth.result _ _ k got refl ∙ ap (λ ps. get_or ps k []) (parts_split 32 line) in
    (e, omega (arith, ap length e, part_short 32 line k))
