-- `card::load` meets its contract: what cannot be read is refused, and a card that was read is judged from its arrays. Assumes nothing.
use mathlib.Core.Path.{◌∙◌}
use native.Mathlib.Omega.{arith}
use Rattle.std.proofs.lemmas.Result.{err_from_is_err_and}
use Rattle.card_records.specs.Written.{Bytes}
use Rattle.card.proofs.Reading.{load_stopped, load_wires, load_judged}
use Rattle.card.proofs.load.Goals as goal
use Rattle.card.proofs.load.Goals.{In_ok-card}

bytes : (c : In_ok-card) → Bytes c.args.bytes.now
bytes c i = omega (arith, c.type_inv.bytes i)

pub returns-in_err-card : goal.returns-in_err-card
returns-in_err-card c =
    let p = err_from_is_err_and c.from_residual.result c.from_residual.ensures.1 in
    rw (p.1, p.2) (load_stopped c.args.session.now _ _ c.parse.ensures _ c.in_err-card.was)

pub judge-requires : goal.judge-requires
judge-requires c = load_wires c.args.session.now _ _ c.parse.ensures (bytes (goal.at.judge-requires c).In_ok-card) _ c.in_ok-card.was

pub returns : goal.returns
returns c = c.judge.ensures ∙ load_judged c.args.session.now _ _ c.parse.ensures (bytes (goal.at.returns c).In_ok-card) _ c.in_ok-card.was
