-- `inputs::flat` meets its contract: a word is known by its bits. Assumes nothing.
use native.Mathlib.Omega.{arith}
use Rattle.word.proofs.Words.{is_word}
use Rattle.inputs.proofs.flat.Goals as goal

pub returns : goal.returns
returns c = is_word 64 (λ t. c.args.value) c.spread.result (omega (arith, c.spread.type_inv)) c.spread.ensures
