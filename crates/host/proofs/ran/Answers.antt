-- `host::ran` meets its contract: 18, 12, and then all of the vectors, or none. Assumes nothing.
use mathlib.Core.Path.{◌≡◌, sym, ◌∙◌}
use native.Mathlib.Nat.{le_of_eq, le-div_iff_mul-le}
use native.Mathlib.Omega.{arith}
use lib.ListN.{length}
use Prim.Native.Nat.{◌*◌, ◌≤◌}
use Rattle.std.specs.Prelude.{Ok}
use Rattle.std.proofs.lemmas.Result.{err_from_is_err_and, IfOk-at_ok}
use Rattle.card.specs.Held.{HasCard}
use Rattle.card.proofs.Kept.{nets_are, inputs_some}
use Rattle.session.specs.Good.{Good}
use Rattle.host_many.specs.Many.{many_judged}
use Rattle.host_many.proofs.Many.{many_asks}
use Rattle.host.specs.Calls.{packed, session_in}
use Rattle.host.proofs.Answering.{in_says}
use Rattle.host.proofs.Vectors.{vectors_refused, ran_refused, ran_done}
use Rattle.host.proofs.ran.Goals as goal
use Rattle.host.proofs.ran.Goals.{In_ok-session, In_ok-k}

-- the bytes hold a session, and it is a good one
held : (c : In_ok-session) → session_in c.args.b.now ≡ Ok c.in_ok-session.session
held c = sym c.session_in.ensures.value ∙ c.in_ok-session.was

good : (c : In_ok-session) → Good c.in_ok-session.session
good c = IfOk-at_ok Good c.in_ok-session.was c.session_in.ensures.good

-- so many vectors are judged to be done: the session is rested and holds a card, they fit, and there is room for them
done : (c : In_ok-k) → many_judged c.in_ok-session.session c.args.vectors.now (length c.args.words.now) ≡ Ok c.in_ok-k.k
done c = sym c.judge_many.ensures ∙ c.in_ok-k.was

card : (c : In_ok-k) → HasCard c.in_ok-session.session
card c =
    let g = IfOk-at_ok Good c.in_ok-session.was c.session_in.ensures.good in
    let asks = many_asks c.in_ok-session.session c.args.vectors.now (length c.args.words.now) _ (done c) in
    g.card (g.rest asks.0).0

bytes : (c : In_ok-k) → c.in_ok-k.k * c.in_ok-session.session.inputs ≤ length c.args.vectors.now
bytes c =
    let asks = many_asks c.in_ok-session.session c.args.vectors.now (length c.args.words.now) _ (done c) in
    (le-div_iff_mul-le (inputs_some c.in_ok-session.session (card c)).0).0 (le_of_eq asks.2)

pub returns-in_err-session : goal.returns-in_err-session
returns-in_err-session c =
    let a = c.args in
    let p = err_from_is_err_and c.from_residual.result c.from_residual.ensures.1 in
    rw (p.1, p.2) (vectors_refused a.engine a.b.now a.vectors.now a.words.now _ (sym c.session_in.ensures.value ∙ c.in_err-session.was))

pub judge_many-requires : goal.judge_many-requires
judge_many-requires c = good (goal.at.judge_many-requires c).In_ok-session

pub returns-in_err-k : goal.returns-in_err-k
returns-in_err-k c =
    let a = c.args in
    let p = err_from_is_err_and c.from_residual-in_err-k.result c.from_residual-in_err-k.ensures.1 in
    rw (p.1, p.2)
    (ran_refused a.engine a.b.now a.vectors.now a.words.now _ (held (goal.at.returns-in_err-k c).In_ok-session) _ (sym c.judge_many.ensures ∙ c.in_err-k.was))

pub run_many-count-requires : goal.run_many-count-requires
run_many-count-requires c =
    let p = (goal.at.run_many-count-requires c).In_ok-k in
    let s = c.in_ok-session.session in
    let h = card p in
    let asks = many_asks s c.args.vectors.now (length c.args.words.now) _ (done p) in
    record {
      good = good (goal.at.run_many-count-requires c).In_ok-session;
      rested_value = (asks.0, asks.1);
      inputs_in_bounds = (bytes p, omega (arith, nets_are s h, h.accepted.legible.few), asks.3);
    }

pub keep_many-requires : goal.keep_many-requires
keep_many-requires c =
    ((in_says c.args.b.now _ (held (goal.at.keep_many-requires c).In_ok-session)).0, bytes (goal.at.keep_many-requires c).In_ok-k)

pub returns : goal.returns
returns c =
    let a = c.args in
    let done = done (goal.at.returns c).In_ok-k in
    (λ i. record { answer = packed (Ok (c.run_many-count.ensures.value i)); bytes = c.keep_many.ensures i; words = c.run_many-count.ensures.room_after i })
    ∙ ran_done a.engine a.b.now a.vectors.now a.words.now _ (held (goal.at.returns c).In_ok-session) _ done
