-- Load: what any bytes leave, for every session. Assumes nothing.
use Rattle.std.specs.Prelude.{cond, List, ℕ, eqb, length}
use Rattle.rule.specs.Net.{Net}
use Rattle.rule.specs.declared.Refusal.{Refusal}
use Rattle.rule.specs.declared.Refusal.TheVariants.{NoInput}
use Rattle.std.specs.Prelude.{Ok, Err}
use Rattle.rule.specs.Answers.{Verdict}
use Rattle.card_wiring.specs.Wired.{verdict_of, wired_of}
use Rattle.card_records.specs.Scan.{Meaning, Stops, Means, meaning}
use Rattle.card.specs.declared.Session.{Session}
use Rattle.card.specs.Loaded.{Loaded}
use Rattle.card.specs.Session.{inputs_of, session_of}

-- "a refused one leaves the old card and its rest"
abbrev pub refusal : Session → Refusal → Loaded
refusal old why = record { answer = Err why; session = old }

-- a card that is taken
abbrev pub taken : List Net → Loaded
taken c = record { answer = Ok (length c); session = session_of c }

-- a card whose wiring passes replaces the old one by a fresh session, and a count is handed back
abbrev pub concluded : Session → Session → ℕ → Verdict → Loaded
concluded old fresh count (Err why) = refusal old why
concluded old fresh count (Ok _) = record { answer = Ok count; session = fresh }

-- "After the end record: 8, 9, 4, 5, 6, 7." "Load gives the number of nets"
unfoldable pub judged : Session → List Net → Loaded
judged old c = cond (eqb (inputs_of c) 0) (refusal old NoInput) (concluded old (session_of c) (length c) (verdict_of (wired_of c)))

abbrev pub load_meant : Session → Meaning → Loaded
load_meant old (Stops why) = refusal old why
load_meant old (Means c) = judged old c

unfoldable pub load_of : Session → List ℕ → Loaded
load_of old s = load_meant old (meaning s)
