-- The session that lent bytes hold: made again from the card's own bytes and the last two vectors. Assumes nothing.
use Rattle.std.specs.Prelude.{Bool, cond, ◌&&◌, List, ℕ, ◌+◌, eqb, ltb, get_or, Option, None, Some, Ok, Err}
use Rattle.lists.specs.Places.{part, clear}
use Rattle.rule.specs.Answers.{Answer}
use Rattle.card_records.specs.Bytes.{u16_at}
use Rattle.card.specs.declared.Session.{Session}
use Rattle.card.specs.Session.{none}
use Rattle.card.specs.Load.{load_of}
use Rattle.session.specs.Moved.{Moved}
use Rattle.session.specs.Moves.{rest_of}
use Rattle.operations.specs.declared.Engine.{Engine}
use Rattle.operations.specs.declared.Engine.TheVariants.{Fields, Steps}
use Rattle.operations.specs.Operated.{vector_by}
use Rattle.host_bytes.specs.Layout.{older_at, last_at, card_at, longest_card, card_to, session_length}

-- bytes that no call left
abbrev pub broken : Option Session
broken = None

-- what is made of a session that an operation left, if it was done
abbrev pub when_done : Answer → Option Session → Option Session
when_done (Ok count) m = m
when_done (Err why) m = broken

abbrev pub held : Session → Option Session
held s = Some s

unfoldable pub made_by : Moved → Option Session
made_by m = when_done m.answer (held m.session)

-- the two rooms for vectors hold so many bytes each, and zeros past them
abbrev pub fitting : List ℕ → ℕ → ℕ → Bool
fitting b older last = clear b (older_at + older) last_at && clear b (last_at + last) card_at

-- a card that was not rested
unfoldable pub made_plain : List ℕ → Session → Option Session
made_plain b s = cond (fitting b 0 0) (held s) broken

-- a card at rest: by the last vector
unfoldable pub made_rested : List ℕ → Session → Option Session
made_rested b s = cond (fitting b 0 s.inputs) (made_by (rest_of s (part b last_at s.inputs))) broken

-- a card that the last vector moved, by an engine, from a rest by the one before it: "The value at 63 is the next before value", and that is the settled one
unfoldable pub made_moved : Engine → List ℕ → Session → Option Session
made_moved engine b s =
    let r = rest_of s (part b older_at s.inputs) in
    cond (fitting b s.inputs s.inputs) (when_done r.answer (made_by (vector_by engine r.session (part b last_at s.inputs)))) broken

-- by what byte 0 says
unfoldable pub made_card : List ℕ → Session → Option Session
made_card b s =
    cond (eqb (get_or b 0 0) 1) (made_plain b s)
    (cond (eqb (get_or b 0 0) 2) (made_rested b s)
    (cond (eqb (get_or b 0 0) 3) (made_moved Fields b s)
    (cond (eqb (get_or b 0 0) 4) (made_moved Steps b s) broken)))

unfoldable pub made_loaded : List ℕ → ℕ → Option Session
made_loaded b len = let l = load_of none (part b card_at len) in when_done l.answer (made_card b l.session)

-- a slice of zeros is the empty session; else the card's bytes come first
unfoldable pub made_again : List ℕ → Option Session
made_again b =
    cond (eqb (get_or b 0 0) 0) (cond (clear b 0 session_length) (held none) broken)
    (cond (ltb longest_card (u16_at b 1)) broken
    (cond (clear b (card_at + u16_at b 1) card_to) (made_loaded b (u16_at b 1)) broken))
