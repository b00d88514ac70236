-- `inputs::tops` meets its contract: the closure gives each net its word's value at time 63. Assumes nothing.
use Rattle.std.proofs.Common.{get_or, rules}
use Rattle.lists.proofs.Made.{made_listed}
use Rattle.word.specs.Word.{bit}
use Rattle.inputs.proofs.tops.Goals as goal

pub returns : goal.returns
returns c = made_listed _ _ (λ n. bit (get_or c.args.words.now n 0) 63) (λ i y q k. search rules) _ _ c.from_fn.ensures.items
