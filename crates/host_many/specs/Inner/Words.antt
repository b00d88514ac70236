-- Inner: cited by contracts between functions alone, and by laws. The words that a vector by an engine leaves of those that the one before it left, and the
-- count that comes with 0. They are the words of the session that the vector leaves: `next_by` (host_many/proofs/Many.antt). Assumes nothing.
use Rattle.std.specs.Prelude.{List, ℕ, get_or}
use Rattle.lists.specs.Listed.{listed}
use Rattle.rule.specs.Steps.{step_list}
use Rattle.card.specs.declared.Session.{Session}
use Rattle.card.specs.Session.{card_of}
use Rattle.fields.specs.Inner.Fields.{advanced}
use Rattle.step_run.specs.declared.Advanced.{Advanced}
use Rattle.step_run.specs.Inner.Runs.{stepped}
use Rattle.operations.specs.declared.Engine.{Engine}
use Rattle.operations.specs.declared.Engine.TheVariants.{Fields, Steps}

abbrev pub words_by : Engine → Session → List ℕ → List ℕ → Advanced
words_by Fields s ws v = record { words = advanced s.feeds s.types s.counts s.places (listed (λ i. get_or s.order i 0) s.gates) ws v; count = 0 }
words_by Steps s ws v = stepped s.feeds s.types s.counts s.places s.sets (step_list (card_of s)) ws v
