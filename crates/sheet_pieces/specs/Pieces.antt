-- The pieces of a sheet, as `next` hands them out one after another, and what a program that writes them has written. Document 01 knows the sheet alone
-- (`sheet_of`); joined the pieces are the sheet: `sheet_pieces`, `sheet_written` (sheet_pieces/proofs/Pieces.antt). Assumes nothing.
use Rattle.std.specs.Prelude.{◌≡◌, Bool, true, false, cond, List, [], ◌++◌, ℕ, zero, suc, ◌+◌, ◌≤◌, ltb, length, take}
use Rattle.std.proofs.lemmas.List.Edits.{sets}
use Rattle.rule.specs.Level.{depth}
use Rattle.rule.specs.declared.Refusal.{Refusal}
use Rattle.rule.specs.declared.Refusal.TheVariants.{NoRoom}
use Rattle.rule.specs.Answers.{Answer}
use Rattle.std.specs.Prelude.{Some, None, Ok, Err}
use Rattle.card.specs.declared.Session.{Session}
use Rattle.card.specs.Loaded.{Loaded}
use Rattle.card.specs.Session.{none, card_of}
use Rattle.card.specs.Load.{load_of}
use Rattle.session.specs.Moved.{Moved}
use Rattle.session.specs.Good.{Good}
use Rattle.session.specs.Moves.{rest_of, vector_of}
use Rattle.sheet_text.specs.declared.Entry.TheVariants.{Rest, Vector}
use Rattle.sheet_pieces.specs.declared.Stage.{Stage}
use Rattle.sheet_pieces.specs.declared.Stage.TheVariants.{Fresh, Going, Over}
use Rattle.sheet_pieces.specs.declared.Sheet.{Sheet}
use Rattle.sheet_pieces.specs.Piece.{Piece}
use Rattle.sheet_text.specs.Lines.{refused_line, card_text, vector_text}
use Rattle.sheet_text.specs.Walk.{card_end, Found, entry_at, body}

-- a sheet of which nothing is written yet
unfoldable pub fresh : Sheet
fresh = record { session = none; depth = 0; at = 0; vectors = 0; stage = Fresh }

-- a sheet that ends there
abbrev pub ended : Sheet → Sheet
ended sheet = record { session = sheet.session; depth = sheet.depth; at = sheet.at; vectors = sheet.vectors; stage = Over }

-- a sheet on which a record moved the session
abbrev pub moved_sheet : Sheet → Session → ℕ → ℕ → Sheet
moved_sheet sheet s next vectors = record { session = s; depth = sheet.depth; at = next; vectors = vectors; stage = Going }

-- a sheet whose card is loaded, with the place after the card
abbrev pub opened : Session → ℕ → Sheet
opened s at = record { session = s; depth = depth (card_of s); at = at; vectors = 0; stage = Going }

-- what a piece comes to: its text, and the sheet after it
pub record Portion : Type 0 where
  pub text : List ℕ
  pub after : Sheet

abbrev pub refused_piece : Sheet → Refusal → Portion
refused_piece sheet why = record { text = refused_line why; after = ended sheet }

-- a refusal ends the sheet with its line
abbrev pub piece_unless : Answer → Sheet → Portion → Portion
piece_unless (Ok count) sheet p = p
piece_unless (Err why) sheet p = refused_piece sheet why

-- the card
abbrev pub loaded_piece : Sheet → ℕ → Loaded → Portion
loaded_piece sheet end l = piece_unless l.answer sheet (record { text = card_text l.session; after = opened l.session end })

unfoldable pub card_piece : Sheet → List ℕ → Portion
card_piece sheet file =
    cond (ltb 65536 (length file)) (refused_piece sheet NoRoom) (loaded_piece sheet (card_end file) (load_of none (take (card_end file) file)))

-- a rest, and a vector, that came to something; the next record is at a place
abbrev pub rest_piece : Sheet → ℕ → Moved → Portion
rest_piece sheet next m = piece_unless m.answer sheet (record { text = []; after = moved_sheet sheet m.session next sheet.vectors })

abbrev pub vector_piece : Sheet → ℕ → Moved → Portion
vector_piece sheet next m =
    let k = sheet.vectors + 1 in
    piece_unless m.answer sheet (record { text = vector_text k m.session; after = moved_sheet sheet m.session next k })

-- a record
abbrev pub entry_piece : Sheet → List ℕ → Found → Portion
entry_piece sheet file (Ok None) = record { text = []; after = ended sheet }
entry_piece sheet file (Err why) = refused_piece sheet why
entry_piece sheet file (Ok (Some (Rest next))) = rest_piece sheet next (rest_of sheet.session (body file sheet.at next))
entry_piece sheet file (Ok (Some (Vector next))) = vector_piece sheet next (vector_of sheet.session (body file sheet.at next))

-- the next piece: the card, then a record each, then nothing
abbrev pub piece_at : Stage → Sheet → List ℕ → Portion
piece_at Fresh sheet file = card_piece sheet file
piece_at Going sheet file = entry_piece sheet file (entry_at file sheet.at)
piece_at Over sheet file = record { text = []; after = sheet }

unfoldable pub piece_of : Sheet → List ℕ → Portion
piece_of sheet file = piece_at sheet.stage sheet file

-- a piece as it is handed back, and the lent page after it: the text at its front, the rest as it was
pub record Written : Type 0 where
  pub piece : Piece
  pub page : List ℕ

unfoldable pub written : Portion → List ℕ → Written
written p page = record { piece = record { sheet = p.after; length = length p.text }; page = sets page 0 p.text }

-- the texts of the first n pieces from a sheet on, one after another
unfoldable pub texts : ℕ → Sheet → List ℕ → List ℕ
texts zero sheet file = []
texts (suc n) sheet file = (piece_of sheet file).text ++ texts n (piece_of sheet file).after file

-- what is written of n pages, one after another: of each as many bytes as its piece has, and the page is lent again
unfoldable pub wrote : ℕ → Sheet → List ℕ → List ℕ → List ℕ
wrote zero sheet file page = []
wrote (suc n) sheet file page =
    let w : Written = written (piece_of sheet file) page in
    take w.piece.length w.page ++ wrote n w.piece.sheet file w.page

-- the sheet after n pieces
unfoldable pub after_pieces : ℕ → Sheet → List ℕ → Sheet
after_pieces zero sheet file = sheet
after_pieces (suc n) sheet file = after_pieces n (piece_of sheet file).after file

-- what the pieces keep: a session that operations left; once the card is loaded, its depth; and no more vectors than bytes passed
pub record Standing (sheet : Sheet) : Type 0 where
  pub good : Good sheet.session
  pub deep : sheet.stage ≡ Going → sheet.depth ≡ depth (card_of sheet.session)
  pub counted : sheet.stage ≡ Going → sheet.vectors ≤ sheet.at

-- nothing more is to be written
abbrev pub is_over : Stage → Bool
is_over Fresh = false
is_over Going = false
is_over Over = true
