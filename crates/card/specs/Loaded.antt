-- What load leaves. Assumes nothing.
use Rattle.rule.specs.Answers.{Answer}
use Rattle.card.specs.declared.Session.{Session}

-- its answer, and the session after it
pub record Loaded : Type 0 where
  pub answer : Answer
  pub session : Session
