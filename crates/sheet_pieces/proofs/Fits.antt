-- Every piece fits the page. Assumes nothing.
use mathlib.Core.Path.{◌≡◌, refl, sym, ap, ◌∙◌, subst}
use mathlib.Core.Bool.{Bool, true, false, cond, beq}
use mathlib.Core.List.Memᴰ
use mathlib.Core.List.{List, [], ◌∷◌}
use Prim.Native.Nat.{ℕ, ◌+◌, ◌*◌, ◌^◌, ◌≤◌, ◌<◌}
use native.Mathlib.Omega.{arith}
use lib.Dec.{eqb, ltb, lit<}
use lib.ListN.{length, take, length-append}
use lib.Seq.{sets-eq, length-sets, take_at}
use Rattle.lists.specs.Entries.{◌∈◌, each, from}
use Rattle.lists.proofs.Joined.{length_from, out_from}
use Rattle.word.specs.Word.{val}
use Rattle.rule.specs.Flag.{changes, flag_of}
use Rattle.rule.specs.Level.{depth}
use Rattle.rule.specs.Steps.{step_list}
use Rattle.rule.specs.Numbers.{number_of}
use Rattle.rule.specs.declared.Refusal.{Refusal}
use Rattle.rule.specs.declared.Refusal.TheVariants.{NoRoom}
use Rattle.rule.specs.Answers.{Answer}
use Rattle.std.specs.Prelude.{Some, None, Ok, Err}
use Rattle.rule.proofs.Numbers.{number_low}
use Rattle.card_records.specs.Written.{Bytes}
use Rattle.card.specs.declared.Session.{Session}
use Rattle.card.specs.Loaded.{Loaded}
use Rattle.card.specs.Session.{none, card_of, before_at}
use Rattle.card.specs.Load.{load_of}
use Rattle.card.specs.Held.{HasCard}
use Rattle.card.proofs.Kept.{few, card_depth, card_steps}
use Rattle.card.proofs.Verdicts.{load_holds}
use Rattle.session.specs.Moves.{rest_of, vector_of}
use Rattle.session.proofs.Kept.{vector_good, vector_rests}
use Rattle.history.proofs.Ran.{holds}
use Rattle.text.specs.Text.{named}
use Rattle.sheet_text.specs.declared.Entry.TheVariants.{Rest, Vector}
use Rattle.sheet_pieces.specs.declared.Stage.{Stage}
use Rattle.sheet_pieces.specs.declared.Stage.TheVariants.{Fresh, Going, Over}
use Rattle.sheet_pieces.specs.declared.Sheet.{Sheet}
use Rattle.sheet_pieces.specs.Piece.{Piece}
use Rattle.sheet_text.specs.Lines.{blank, lf, depth_word, steps_word, vector_word, refused_line, first_line, history_line, card_text, vector_text}
use Rattle.sheet_text.specs.Walk.{card_end, Found, entry_at, body}
use Rattle.sheet_pieces.specs.Pieces.{Portion, refused_piece, piece_unless, loaded_piece, card_piece, entry_piece, piece_at, piece_of, Written, written, Standing}
use Rattle.sheet_text.proofs.Lengths.{byte_short, word_short, line_short}
use Rattle.sheet_pieces.proofs.Steps.{bytes_front}
use Rattle.sheet_pieces.proofs.Standing.{Placed, entry_placed, piece_stands}

-- a before value and a flag are bytes
val_low : (b : Bool) → val b < 256
val_low true = lit< tt
val_low false = lit< tt

flag_low : (b : Bool) (f : ℕ → Bool) → flag_of b f < 256
unfolding flag_of
flag_low b f = go (eqb (changes b f) 0) (eqb (changes b f) 1) (beq b (f 63))
  where
    go : (x y z : Bool) → cond x 0 (cond y 1 (cond z 2 3)) < 256
    go true y z = lit< tt
    go false true z = lit< tt
    go false false true = lit< tt
    go false false false = lit< tt

-- the lines

refused_short : (why : Refusal) → length (refused_line why) ≤ 20480
unfolding refused_line
refused_short why = omega (arith, byte_short (number_of why) lf (number_low why))

card_short : (s : Session) → HasCard s → length (card_text s) ≤ 20480
unfolding card_text first_line
card_short s h =
    let d = depth (card_of s) in
    let n = length (step_list (card_of s)) in
    omega (
      arith,
      length-append (named depth_word d blank) (named steps_word n lf),
      word_short d blank (omega (arith, card_depth s h)),
      word_short n lf
          (omega (arith, card_steps s h)),
    )

each_short : (f : ℕ → List ℕ) (xs : List ℕ) → ((x : ℕ) → x ∈ xs → length (f x) ≤ 77) → length (each f xs) ≤ 77 * length xs
each_short f [] h = omega arith
each_short f (x ∷ xs) h = omega (arith, length-append (f x) (each f xs), h x (Memᴰ.head refl), each_short f xs (λ y m. h y (Memᴰ.tail m)))

history_short : (s : Session) → HasCard s → (n : ℕ) → n < 256 → length (history_line s n) ≤ 77
unfolding history_line
history_short s h n l = line_short (depth (card_of s)) n _ _ _ (card_depth s h) l (val_low (before_at s n)) (flag_low _ _)

vector_short : (k : ℕ) (s : Session) → k < 2 ^ 64 → HasCard s → length (vector_text k s) ≤ 20480
unfolding vector_text
vector_short k s l h =
    omega (
      arith,
      length-append (named vector_word k lf) (each (history_line s) (from 0 s.nets)),
      word_short k lf l,
      each_short (history_line s) (from 0 s.nets) (λ n m. history_short s h n (omega (arith, few s h, (out_from 0 s.nets n m).1))),
      length_from 0 s.nets,
      few s h,
    )

unless_short : (a : Answer) (sheet : Sheet) (p : Portion) → ((k : ℕ) → a ≡ Ok k → length p.text ≤ 20480)
    → length (piece_unless a sheet p).text ≤ 20480
unless_short (Ok k) sheet p h = h k refl
unless_short (Err why) sheet p h = refused_short why

module _ (file : List ℕ) (bytes : Bytes file) (size : length file < 2 ^ 64) where
  pub piece_fits : (sheet : Sheet) → Standing sheet → length (piece_of sheet file).text ≤ 20480
  unfolding piece_of card_piece
  piece_fits sheet s = go sheet.stage refl
    where
      loaded : Loaded
      loaded = load_of none (take (card_end file) file)

      card : (b : Bool) → length (cond b (refused_piece sheet NoRoom) (loaded_piece sheet (card_end file) loaded)).text ≤ 20480
      card true = refused_short NoRoom
      card false =
          unless_short loaded.answer sheet _
          (λ k e. card_short loaded.session (load_holds none (take (card_end file) file) (bytes_front (card_end file) file bytes) loaded refl k e))

      entry : sheet.stage ≡ Going → (e : Found) → Placed (length file) sheet.at e → length (entry_piece sheet file e).text ≤ 20480
      entry q (Ok None) p = omega arith
      entry q (Err why) p = refused_short why
      entry q (Ok (Some (Rest next))) p = unless_short (rest_of sheet.session (body file sheet.at next)).answer sheet _ (λ k e. omega arith)
      entry q (Ok (Some (Vector next))) p =
          let v = body file sheet.at next in
          let m = vector_of sheet.session v in
          unless_short m.answer sheet _
          (λ k e. vector_short (sheet.vectors + 1) m.session (omega (arith, s.counted q, p.0, p.1))
          (holds m.session (vector_good sheet.session s.good v) (vector_rests sheet.session v k e)))

      go : (x : Stage) → sheet.stage ≡ x → length (piece_at x sheet file).text ≤ 20480
      go Fresh e = card (ltb 65536 (length file))
      go Going e = entry e (entry_at file sheet.at) (entry_placed file sheet.at)
      go Over e = omega arith

  -- a piece that is handed back so: the sheet after it stands, and it fits
  pub piece_kept : (sheet : Sheet) → Standing sheet → (old new : List ℕ) (r : Piece)
      → ◌≡◌ {A = Written} (record { piece = r; page = new }) (written (piece_of sheet file) old)
      → (◌≡◌ {A = Written} (record { piece = r; page = new }) (written (piece_of sheet file) old)) × Standing r.sheet × (r.length ≤ 20480)
  unfolding written
  piece_kept sheet s old new r w =
      let e : r.length ≡ length (piece_of sheet file).text = ap (λ x. x.piece.length) w in
      (w, subst Standing (sym (ap (λ x. x.piece.sheet) w)) (piece_stands file bytes sheet s), omega (arith, piece_fits sheet s))

-- so what is written of the page, as many bytes as the piece has, is the piece's text
pub piece_read : (p : Portion) (page : List ℕ) → length p.text ≤ length page
    → take (written p page).piece.length (written p page).page ≡ p.text
unfolding written
piece_read p page l = ap (take (length p.text)) (sets-eq p.text page 0 (omega arith)) ∙ take_at p.text _ (length p.text) refl

-- and the page stays as long as it was
pub page_stays : (p : Portion) (old new : List ℕ) (r : Piece) → ◌≡◌ {A = Written} (record { piece = r; page = new }) (written p old)
    → length new ≡ length old
unfolding written
page_stays p old new r w = ap (λ x. length x.page) w ∙ length-sets old 0 p.text

-- the sheet after it is the portion's
pub sheet_after : (p : Portion) (old new : List ℕ) (r : Piece) → ◌≡◌ {A = Written} (record { piece = r; page = new }) (written p old)
    → r.sheet ≡ p.after
unfolding written
sheet_after p old new r w = ap (λ x. x.piece.sheet) w
