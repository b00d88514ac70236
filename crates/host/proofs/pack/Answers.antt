-- `host::pack` meets its contract. Assumes nothing.
use mathlib.Core.Path.{ap₂, ◌∙◌}
use Prim.Native.Nat.{◌+◌, ◌*◌, ◌%◌}
use Rattle.host.specs.Calls.{packed}
use Rattle.host.proofs.Packing.{counted}
use Rattle.host.proofs.pack.Goals as goal

pub returns : goal.returns
unfolding packed
returns c =
    let number = c.from-number.ensures ∙ c.number.ensures in
    let count = c.unwrap_or.ensures ∙ counted c.args.answer in
    ap₂ (λ n k. n + 256 * (k % 65536)) number count
