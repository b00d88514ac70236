-- Inner: cited by contracts between functions alone, and by laws. Load from any arrays. Of a card that is laid out there it is the card's: `judge_laid`
-- (card/proofs/Reading.antt). Assumes nothing.
use Rattle.std.specs.Prelude.{true, false, cond, List, ℕ, eqb, get_or, replicate, Result, Ok, Err}
use Rattle.word.specs.Times.{count}
use Rattle.rule.specs.declared.Refusal.{Refusal}
use Rattle.rule.specs.declared.Refusal.TheVariants.{NoInput}
use Rattle.card_wiring.specs.declared.Wired.{Wired}
use Rattle.card_wiring.specs.Inner.Wired.{arrays_wired}
use Rattle.inputs.specs.Inputs.{input_nets}
use Rattle.card.specs.declared.Session.{Session}
use Rattle.card.specs.Loaded.{Loaded}
use Rattle.card.specs.Load.{refusal}

-- the session of a card just loaded, from its arrays, the nets that are inputs, and what their wiring came to
abbrev pub arrays_session : ℕ → ℕ → List ℕ → List ℕ → List ℕ → List ℕ → List ℕ → Wired → Session
arrays_session n inputs kinds types counts places feeds w = record {
  loaded = true;
  rested = false;
  nets = n;
  inputs = inputs;
  gates = w.gates;
  kinds = kinds;
  types = types;
  counts = counts;
  places = places;
  order = w.order;
  feeds = feeds;
  sets = w.sets;
  before = replicate 256 false;
  words = replicate 256 0;
}

-- a refusal, or a session made of what is kept, with a count
abbrev pub concluded_from : Session → (Wired → Session) → ℕ → Result Wired Refusal → Loaded
concluded_from old fresh handed (Err why) = refusal old why
concluded_from old fresh handed (Ok kept) = record { answer = Ok handed; session = fresh kept }

-- 4, 5, 6, 7, or that session, with a count
unfoldable pub arrays_concluded : Session → ℕ → ℕ → ℕ → List ℕ → List ℕ → List ℕ → List ℕ → Loaded
arrays_concluded old handed inputs n kinds types counts places =
    concluded_from old (arrays_session n inputs kinds types counts places (input_nets kinds 256)) handed (arrays_wired counts places n)

-- 9 before that
unfoldable pub arrays_judged : Session → ℕ → List ℕ → List ℕ → List ℕ → List ℕ → Loaded
arrays_judged old n kinds types counts places =
    let inputs = count (λ g. eqb (get_or kinds g 0) 1) n in
    cond (eqb inputs 0) (refusal old NoInput) (arrays_concluded old n inputs n kinds types counts places)
