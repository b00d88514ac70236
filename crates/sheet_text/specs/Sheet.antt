-- The sheet of a session file, as document 01's "The sheet program" has it. Assumes nothing.
use Rattle.std.specs.Prelude.{cond, List, [], ◌++◌, Some, None, Ok, Err, ℕ, zero, suc, ◌+◌, ltb, length, take}
use Rattle.rule.specs.declared.Refusal.TheVariants.{NoRoom}
use Rattle.rule.specs.Answers.{Answer}
use Rattle.card.specs.declared.Session.{Session}
use Rattle.card.specs.Loaded.{Loaded}
use Rattle.card.specs.Session.{none}
use Rattle.card.specs.Load.{load_of}
use Rattle.session.specs.Moved.{Moved}
use Rattle.session.specs.Moves.{rest_of, vector_of}
use Rattle.sheet_text.specs.declared.Entry.TheVariants.{Rest, Vector}
use Rattle.sheet_text.specs.Lines.{refused_line, card_text, vector_text}
use Rattle.sheet_text.specs.Walk.{card_end, Found, entry_at, body}

-- "It stops at the first refusal with a line `refused` and the number, and prints nothing else for that record."
abbrev pub unless_refused : Answer → List ℕ → List ℕ
unless_refused (Ok count) text = text
unless_refused (Err why) text = refused_line why

-- one record, handed on to the session that those ahead of it left, with the number of vectors so far; `more` is the text of what follows.
-- "A rest prints nothing."
abbrev pub entry_text : List ℕ → ℕ → Session → ℕ → Found → (ℕ → Session → ℕ → List ℕ) → List ℕ
entry_text file at s k (Ok None) more = []
entry_text file at s k (Err why) more = refused_line why
entry_text file at s k (Ok (Some (Rest next))) more = let m : Moved = rest_of s (body file at next) in unless_refused m.answer (more next m.session k)
entry_text file at s k (Ok (Some (Vector next))) more =
    let m : Moved = vector_of s (body file at next) in
    unless_refused m.answer (vector_text (k + 1) m.session ++ more next m.session (k + 1))

-- the records from a place on; there are no more than bytes
unfoldable pub records_text : ℕ → List ℕ → ℕ → Session → ℕ → List ℕ
records_text zero file at s k = []
records_text (suc fuel) file at s k = entry_text file at s k (entry_at file at) (records_text fuel file)

-- the card, and then the records after it
unfoldable pub loaded_text : List ℕ → Loaded → List ℕ
loaded_text file l = unless_refused l.answer (card_text l.session ++ records_text (length file) file (card_end file) l.session 0)

-- "It reads a session file of up to 65,536 bytes from standard input; a longer one prints `refused 18`."
unfoldable pub sheet_of : List ℕ → List ℕ
sheet_of file = cond (ltb 65536 (length file)) (refused_line NoRoom) (loaded_text file (load_of none (take (card_end file) file)))
