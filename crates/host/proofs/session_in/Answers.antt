-- `host::session_in` meets its contract: 18, 12, or the session; and it is a good one. Assumes nothing.
use mathlib.Core.Path.{◌≡◌, sym, ap, ◌∙◌}
use native.Mathlib.Omega.{arith}
use Rattle.std.specs.Prelude.{Result, Ok, Err, IfOk, ok_or}
use Rattle.rule.specs.declared.Refusal.{Refusal}
use Rattle.rule.specs.declared.Refusal.TheVariants.{NotReady}
use Rattle.card.specs.declared.Session.{Session}
use Rattle.session.specs.Good.{Good}
use Rattle.host.specs.Calls.{session_in}
use Rattle.host.proofs.Answering.{in_short, in_made, in_good}
use Rattle.host.proofs.session_in.Goals as goal
use Rattle.host.proofs.session_in.Goals.{After-ok_or}

-- past the first test it is the session that is made again, or 12
found : (c : After-ok_or) → c.ok_or.result ≡ session_in c.args.b.now
found c = c.ok_or.ensures.value ∙ ap (λ x. ok_or x NotReady) c.made_again.ensures ∙ sym (in_made c.args.b.now c.if-b-lt-SESSION_LENGTH.false)

pub returns-then-b-lt-SESSION_LENGTH-clause-value : goal.returns-then-b-lt-SESSION_LENGTH-clause-value
returns-then-b-lt-SESSION_LENGTH-clause-value c = sym (in_short c.args.b.now c.if-b-lt-SESSION_LENGTH.true)

pub returns-clause-value : goal.returns-clause-value
returns-clause-value c = found (goal.at.returns-clause-value c).After-ok_or

pub returns-clause-good : goal.returns-clause-good
returns-clause-good c = good c.ok_or.result (found (goal.at.returns-clause-good c).After-ok_or)
  where
    good : (r : Result Session Refusal) → r ≡ session_in c.args.b.now → IfOk r Good
    good (Ok s) e = in_good c.args.b.now s (λ i. omega (arith, c.type_inv.b i)) (sym e)
    good (Err why) e = tt
