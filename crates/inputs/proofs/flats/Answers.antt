-- `inputs::flats` meets its contract: the closure gives each net the word that has its value at every time. Assumes nothing.
use Rattle.std.proofs.Common.{false, get_or, rules}
use Rattle.lists.proofs.Made.{made_listed}
use Rattle.word.specs.Word.{word_of}
use Rattle.inputs.proofs.flats.Goals as goal

pub returns : goal.returns
returns c = made_listed _ _ (λ n. word_of 64 (λ t. get_or c.args.values.now n false)) (λ i y q k. search rules) _ _ c.from_fn.ensures.items
