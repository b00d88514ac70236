-- What operations answer: done, with what is handed back, or refused. Assumes nothing.
use Rattle.std.specs.Prelude.{ℕ, Result}
use Rattle.rule.specs.declared.Refusal.{Refusal}
use Rattle.rule.specs.declared.NetFacts.{NetFacts}

-- "With 0 comes a count."
abbrev pub Answer : Type 0
Answer = Result ℕ Refusal

-- a judgement: passed, or refused
abbrev pub Verdict : Type 0
Verdict = Result (Unit {0}) Refusal

-- "A question about one net gives its level and its PC-set word"
abbrev pub NetAnswer : Type 0
NetAnswer = Result NetFacts Refusal
