-- `card::conclude` meets its contract: its answer is the wiring's verdict, and a card that passes is laid into the new session. Assumes nothing.
use Rattle.std.proofs.lemmas.Result.{err_from_is_err_and}
use Rattle.card.proofs.Reading.{conclude_faulty, conclude_passed}
use Rattle.card.proofs.conclude.Goals as goal

pub returns-in_err-wired : goal.returns-in_err-wired
returns-in_err-wired c =
    let a = c.args.card.now in
    let p = err_from_is_err_and c.from_residual.result c.from_residual.ensures.1 in
    rw (p.1, p.2) (conclude_faulty c.args.session.now a.nets a.kinds a.types a.counts a.places a.nets c.args.inputs c.wire.result c.wire.ensures _ c.in_err-wired.was)

pub returns : goal.returns
returns c =
    let a = c.args.card.now in
    conclude_passed c.args.session.now a.nets a.kinds a.types a.counts a.places a.nets c.args.inputs c.wire.result c.wire.ensures _ c.in_ok-wired.was
    c.input_nets.result c.input_nets.ensures
