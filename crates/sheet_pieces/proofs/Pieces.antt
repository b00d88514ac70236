-- The theorem of the sheet: the pieces, one after another, are the sheet of the file, for every byte string, and they end. Assumes nothing.
use mathlib.Core.Path.{◌≡◌, refl, sym, ap, ap₂, ◌∙◌, subst}
use mathlib.Core.Bool.{Bool, true, false, cond}
use mathlib.Core.List.{List, [], ◌++◌, append-nil}
use Prim.Native.Nat.{ℕ, zero, suc, ◌+◌, ◌-◌, ◌^◌, ◌≤◌, ◌<◌}
use native.Mathlib.Omega.{arith}
use lib.Dec.{ltb}
use lib.ListN.{length, take}
use Rattle.rule.specs.Level.{depth}
use Rattle.rule.specs.declared.Refusal.{Refusal}
use Rattle.rule.specs.declared.Refusal.TheVariants.{NoRoom}
use Rattle.rule.specs.Answers.{Answer}
use Rattle.std.specs.Prelude.{Some, None, Ok, Err}
use Rattle.card_records.specs.Written.{Bytes}
use Rattle.card.specs.declared.Session.{Session}
use Rattle.card.specs.Loaded.{Loaded}
use Rattle.card.specs.Session.{none, card_of}
use Rattle.card.specs.Load.{load_of}
use Rattle.session.specs.Moves.{rest_of, vector_of}
use Rattle.sheet_text.specs.declared.Entry.TheVariants.{Rest, Vector}
use Rattle.sheet_pieces.specs.declared.Stage.{Stage}
use Rattle.sheet_pieces.specs.declared.Stage.TheVariants.{Fresh, Going, Over}
use Rattle.sheet_pieces.specs.declared.Sheet.{Sheet}
use Rattle.sheet_text.specs.Lines.{card_text, vector_text}
use Rattle.sheet_text.specs.Walk.{card_end, Found, entry_at, body}
use Rattle.sheet_text.specs.Sheet.{unless_refused, entry_text, records_text, loaded_text, sheet_of}
use Rattle.sheet_pieces.specs.Pieces.{fresh, ended, Portion, refused_piece, piece_unless, loaded_piece, card_piece, entry_piece, piece_at, piece_of, written, texts, wrote, after_pieces, Standing}
use Rattle.sheet_pieces.proofs.Left.{left_at, left}
use Rattle.sheet_pieces.proofs.Standing.{Placed, entry_placed, entry_past, fresh_stands, piece_stands, piece_falls}
use Rattle.sheet_pieces.proofs.Fits.{piece_fits, piece_read, page_stays, sheet_after}

module _ (file : List ℕ) where
  -- a sheet that is over says no more
  over_silent : (n : ℕ) (sheet : Sheet) → sheet.stage ≡ Over → texts n sheet file ≡ []
  unfolding texts piece_of
  over_silent zero sheet e = refl
  over_silent (suc n) sheet e =
      subst (λ x. (piece_at x sheet file).text ++ texts n (piece_at x sheet file).after file ≡ []) (sym e) (over_silent n sheet e)

  -- what a portion says and all that follows it
  abbrev said : ℕ → Portion → List ℕ
  said n p = p.text ++ texts n p.after file

  refused_ends : (n : ℕ) (sheet : Sheet) (why : Refusal) → said n (refused_piece sheet why) ≡ (refused_piece sheet why).text
  refused_ends n sheet why = ap (λ xs. (refused_piece sheet why).text ++ xs) (over_silent n (ended sheet) refl) ∙ append-nil (refused_piece sheet why).text

  answered : (n : ℕ) (a : Answer) (sheet : Sheet) (p : Portion) (text : List ℕ) → said n p ≡ text
      → said n (piece_unless a sheet p) ≡ unless_refused a text
  answered n (Ok k) sheet p text e = e
  answered n (Err why) sheet p text e = refused_ends n sheet why

  -- a sheet whose card is loaded
  abbrev going : Session → (depth at vectors : ℕ) → Sheet
  going s depth at vectors = record { session = s; depth = depth; at = at; vectors = vectors; stage = Going }

  abbrev Follows : ℕ → ℕ → Type 0
  Follows n fuel =
      (s : Session) (depth at vectors : ℕ) → length file ≤ at + n → length file ≤ at + fuel → texts n (going s depth at vectors) file ≡ records_text
      fuel file at s vectors

  entry_said : (n fuel : ℕ) → Follows n fuel → (s : Session) (depth at vectors : ℕ) → length file ≤ at + suc n → length file ≤ at + suc fuel
      → (e : Found) → Placed (length file) at e
      → said n (entry_piece (going s depth at vectors) file e) ≡ entry_text file at s vectors e (records_text fuel file)
  entry_said n fuel h s depth at vectors l m (Ok None) p = over_silent n (ended (going s depth at vectors)) refl
  entry_said n fuel h s depth at vectors l m (Err why) p = refused_ends n (going s depth at vectors) why
  entry_said n fuel h s depth at vectors l m (Ok (Some (Rest next))) p =
      let r = rest_of s (body file at next) in
      answered n r.answer (going s depth at vectors) _ _ (h r.session depth next vectors (omega (arith, p.0)) (omega (arith, p.0)))
  entry_said n fuel h s depth at vectors l m (Ok (Some (Vector next))) p =
      let r = vector_of s (body file at next) in
      answered n r.answer (going s depth at vectors) _ _
      (ap (λ xs. vector_text (vectors + 1) r.session ++ xs) (h r.session depth next (vectors + 1) (omega (arith, p.0)) (omega (arith, p.0))))

  -- the records from a place on, with turns enough
  records_said : (n fuel : ℕ) → Follows n fuel
  unfolding texts records_text piece_of
  records_said zero zero s depth at vectors l m = refl
  records_said zero (suc fuel) s depth at vectors l m =
      sym (ap (λ e. entry_text file at s vectors e (records_text fuel file)) (entry_past file at (omega arith)))
  records_said (suc n) zero s depth at vectors l m =
      ap (λ e. said n (entry_piece (going s depth at vectors) file e)) (entry_past file at (omega arith))
      ∙ over_silent n (ended (going s depth at vectors)) refl
  records_said (suc n) (suc fuel) s depth at vectors l m =
      entry_said n fuel (records_said n fuel) s depth at vectors l m (entry_at file at) (entry_placed file at)

  -- The pieces from the first on, joined, are the sheet, for every file; two more than its bytes are enough.
  pub sheet_pieces : (n : ℕ) → length file + 2 ≤ n → texts n fresh file ≡ sheet_of file
  unfolding texts piece_of fresh card_piece sheet_of loaded_text
  sheet_pieces zero l = absurd (omega arith)
  sheet_pieces (suc n) l = go (ltb 65536 (length file))
    where
      loaded : Loaded
      loaded = load_of none (take (card_end file) file)

      go : (b : Bool)
          → said n (cond b (refused_piece fresh NoRoom) (loaded_piece fresh (card_end file) loaded))
          ≡ cond b (refused_piece fresh NoRoom).text (loaded_text file loaded)
      go true = refused_ends n fresh NoRoom
      go false =
          answered n loaded.answer fresh _ _
          (ap (λ xs. card_text loaded.session ++ xs)
          (records_said n (length file) loaded.session (depth (card_of loaded.session)) (card_end file) 0 (omega arith) (omega arith)))

  -- They end: after so many pieces as `left` says the sheet is over
  ends_within : (n : ℕ) (sheet : Sheet) → left sheet file ≤ n → (after_pieces n sheet file).stage ≡ Over
  unfolding after_pieces piece_of left
  ends_within zero sheet l = go sheet.stage refl l
    where
      go : (x : Stage) → sheet.stage ≡ x → left_at x (length file) (length file - sheet.at) ≤ 0 → sheet.stage ≡ Over
      go Fresh e h = absurd (omega arith)
      go Going e h = absurd (omega arith)
      go Over e h = e
  ends_within (suc n) sheet l = go sheet.stage refl (λ x. ends_within n (piece_of sheet file).after x)
    where
      go : (x : Stage) → sheet.stage ≡ x → (left (piece_of sheet file).after file ≤ n → (after_pieces n (piece_of sheet file).after file).stage ≡ Over)
          → (after_pieces n (piece_of sheet file).after file).stage ≡ Over
      go Fresh e h = h (omega (arith, piece_falls file sheet (λ o. differ (sym e ∙ o))))
        where
          differ : Fresh ≡ Over → ⊥
          differ q = let z : ◌≡◌ {A = ℕ} 0 1 = cc in omega arith
      go Going e h = h (omega (arith, piece_falls file sheet (λ o. differ (sym e ∙ o))))
        where
          differ : Going ≡ Over → ⊥
          differ q = let z : ◌≡◌ {A = ℕ} 0 1 = cc in omega arith
      go Over e h =
          let same : (piece_of sheet file).after ≡ sheet = ap (λ x. (piece_at x sheet file).after) e in
          h (omega (arith, ap (λ x. left x file) same ∙ ap (λ x. left_at x (length file) (length file - sheet.at)) e))

  pub pieces_end : (after_pieces (length file + 2) fresh file).stage ≡ Over
  unfolding left fresh
  pieces_end = ends_within (length file + 2) fresh (omega arith)

-- The same of the bytes that are written: of each page the front that `next` filled, whatever the page held before.
module _ (file : List ℕ) (bytes : Bytes file) (size : length file < 2 ^ 64) where
  wrote_texts : (n : ℕ) (sheet : Sheet) (page : List ℕ) → Standing sheet → length page ≡ 20480 → wrote n sheet file page ≡ texts n sheet file
  unfolding wrote texts
  wrote_texts zero sheet page s l = refl
  wrote_texts (suc n) sheet page s l =
      let p = piece_of sheet file in
      let w = written p page in
      ap₂ ◌++◌ (piece_read p page (omega (arith, piece_fits file bytes size sheet s)))
      (ap (λ x. wrote n x file w.page) (sheet_after p page w.page w.piece refl)
      ∙ wrote_texts n p.after w.page (piece_stands file bytes sheet s) (page_stays p page w.page w.piece refl ∙ l))

  pub sheet_written : (n : ℕ) (page : List ℕ) → length page ≡ 20480 → length file + 2 ≤ n → wrote n fresh file page ≡ sheet_of file
  sheet_written n page l h = wrote_texts n fresh page fresh_stands l ∙ sheet_pieces file n h
