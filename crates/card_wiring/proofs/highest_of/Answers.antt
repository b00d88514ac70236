-- The highest of the first n, as the library goes through a list: `highest_fold`. Assumes nothing.
use mathlib.Core.Path.{◌≡◌, ◌∙◌}
use Prim.Native.Nat.{max}
use lib.ListN.{take}
use Rattle.std.proofs.Common.{rules}
use Rattle.std.proofs.iter.runs.Made.{chains}
use Rattle.std.specs.Prelude.{fold}
use Rattle.card_wiring.proofs.Sweeps.{highest_fold}
use Rattle.card_wiring.proofs.highest_of.Goals as goal

pub returns : goal.returns
returns c =
    let it : c.fold.result ≡ fold max 0 (take c.args.n c.args.levels.now) = search (rules, chains) in
    it ∙ highest_fold c.args.levels.now c.args.n (search rules)
