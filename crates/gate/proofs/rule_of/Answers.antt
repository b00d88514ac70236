-- A gate type's row has its controlling value and its inversion: antt computes that the bits of each column, from type 0 on, are
-- the list in the definition, and `listed_at` reads one. Assumes nothing.
use mathlib.Core.Path.{sym, ◌∙◌}
use mathlib.Core.Bool.{false}
use Rattle.lists.specs.Listed.{listed, listed_from}
use Rattle.lists.proofs.Listed.{listed_at}
use Rattle.word.specs.Word.{bit}
use Rattle.word.proofs.Bits.{test_bit}
use Rattle.gate.specs.Gate.{controls, inverts}
use Rattle.gate.proofs.rule_of.Goals as goal

pub returns : goal.returns
unfolding listed listed_from bit controls inverts
returns c =
    let ty = c.args.ty in
    let l = c.requires in
    (test_bit _ ty ∙ sym (listed_at (bit _) 8 ty false l), test_bit _ ty ∙ sym (listed_at (bit _) 8 ty false l))
