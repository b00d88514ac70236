-- `card::inputs_below` meets its contract: the count of the front's entries is that of the nets. Assumes nothing.
use Rattle.std.proofs.Common.{◌≡◌, eqb, take, rules, tests, arith, ◌∙◌}
use Rattle.std.specs.List.{count_by}
use Rattle.card.proofs.Counted.{counted}
use Rattle.card.proofs.inputs_below.Goals as goal

pub returns : goal.returns
returns c =
    let kinds = c.args.kinds.now in
    let e : c.count.result ≡ count_by (λ k. eqb k 1) (take c.args.n kinds) = search (rules, tests) in
    e ∙ counted (λ k. eqb k 1) kinds c.args.n (omega (arith, c.requires, c.told-kinds))
