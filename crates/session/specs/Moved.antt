-- What an operation that moves a session leaves. Assumes nothing.
use Rattle.rule.specs.Answers.{Answer}
use Rattle.card.specs.declared.Session.{Session}

-- its answer, and the session after it
pub record Moved : Type 0 where
  pub answer : Answer
  pub session : Session
