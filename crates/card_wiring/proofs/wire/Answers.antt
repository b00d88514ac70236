-- `card_wiring::wire` meets its contract: each test that the code makes is a test of the judgement over the arrays. Assumes nothing.
use mathlib.Core.Path.{◌≡◌, sym, ap, ◌∙◌}
use native.Mathlib.Omega.{arith}
use Rattle.std.proofs.Common.{rules}
use Rattle.std.specs.Prelude.{Some, None, Err, is_some}
use Rattle.card_wiring.specs.Inner.Wires.{highest}
use Rattle.card_wiring.specs.Inner.Wired.{arrays_wired}
use Rattle.card_wiring.proofs.Judged.{Counted, wired_unfit, wired_looped, wired_deep, wired_sets}
use Rattle.card_wiring.proofs.wire.Goals as goal
use Rattle.card_wiring.proofs.wire.Goals.{After-highest_of-depth}

pub returns-in_err-wiring : goal.returns-in_err-wiring
returns-in_err-wiring c =
    let none : c.of.result ≡ None = search rules in
    let it : c.from_residual.result ≡ Err _ = search rules in
    it ∙ wired_unfit c.args.counts.now c.args.places.now c.args.n (sym c.of.ensures.some ∙ ap is_some none)

-- the wiring has the arrays that are judged
same : (c : After-highest_of-depth) → (let w = c.in_ok-wiring.wiring in (w.counts.now ≡ c.args.counts.now) × (w.places.now ≡ c.args.places.now) × (w.nets ≡ c.args.n))
same c =
    let some : c.of.result ≡ Some c.in_ok-wiring.wiring = search rules in
    rw some at c.of.ensures.same

judged : (c : After-highest_of-depth) → (let w = c.in_ok-wiring.wiring in arrays_wired w.counts.now w.places.now w.nets ≡ arrays_wired c.args.counts.now c.args.places.now c.args.n)
judged c = let s = same c in rw (s.0, s.1, s.2)

-- one count serves the loops and the levels, since every delay is 1
counted : (c : After-highest_of-depth) → (let w = c.in_ok-wiring.wiring in Counted (λ g. 1) w.counts.now w.places.now w.nets c.gates_back-levels.result c.highest_of-depth.result)
counted c = record { counted = c.gates_back-levels.ensures; highest_is = c.highest_of-depth.ensures ∙ ap (highest c.gates_back-levels.result) (sym (same c).2) }

pub returns-then-n-depth : goal.returns-then-n-depth
returns-then-n-depth c =
    let d = (goal.at.returns-then-n-depth c).After-highest_of-depth in
    wired_looped c.in_ok-wiring.wiring.fits (counted d) (omega (arith, (same d).2)) ∙ judged d

pub returns-then-depth-gt63 : goal.returns-then-depth-gt63
returns-then-depth-gt63 c =
    let d = (goal.at.returns-then-depth-gt63 c).After-highest_of-depth in
    wired_deep c.in_ok-wiring.wiring.fits (counted d) (counted d) (omega (arith, (same d).2)) (omega arith) ∙ judged d

pub returns : goal.returns
returns c =
    let d = (goal.at.returns c).After-highest_of-depth in
    c.with_sets.ensures ∙ wired_sets c.in_ok-wiring.wiring.fits (counted d) (counted d) (omega (arith, (same d).2)) (omega arith) ∙ judged d
