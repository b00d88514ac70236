-- What every step keeps, how far it moves on, and that its text fits the page. Assumes nothing.
use mathlib.Core.Path.{◌≡◌, refl, sym, ap, ◌∙◌}
use mathlib.Core.Bool.{Bool, true, false, cond, true≢false}
use mathlib.Core.List.{List}
use Prim.Native.Nat.{ℕ, ◌+◌, ◌-◌, ◌≤◌, ◌<◌}
use native.Mathlib.Omega.{arith}
use lib.Dec.{eqb, leb, ltb}
use lib.ListN.{length, take}
use borrow.Author.Tests.{ltb-false, le-leb}
use Rattle.rule.specs.Level.{depth}
use Rattle.rule.specs.declared.Refusal.TheVariants.{CutShort, BadRecord, NoRoom}
use Rattle.rule.specs.Answers.{Answer}
use Rattle.std.specs.Prelude.{Some, None, Ok, Err}
use Rattle.card_records.specs.Bytes.{u16_at}
use Rattle.card_records.specs.Written.{Bytes}
use Rattle.card.specs.declared.Session.{Session}
use Rattle.card.specs.Loaded.{Loaded}
use Rattle.card.specs.Session.{none, card_of}
use Rattle.card.specs.Load.{load_of}
use Rattle.session.specs.Good.{Good}
use Rattle.session.specs.Moves.{rest_of, vector_of}
use Rattle.session.proofs.Kept.{none_good, load_good, rest_good, vector_good, rest_card, vector_card}
use Rattle.sheet_text.specs.declared.Entry.TheVariants.{Rest, Vector}
use Rattle.sheet_pieces.specs.declared.Stage.{Stage}
use Rattle.sheet_pieces.specs.declared.Stage.TheVariants.{Fresh, Going, Over}
use Rattle.sheet_pieces.specs.declared.Sheet.{Sheet}
use Rattle.sheet_text.specs.Walk.{card_end, Found, entry_in, entry_at, body}
use Rattle.sheet_pieces.specs.Pieces.{fresh, ended, moved_sheet, Portion, refused_piece, piece_unless, loaded_piece, card_piece, entry_piece, piece_at, piece_of, Standing, is_over}
use Rattle.sheet_pieces.proofs.Left.{left_at, left}
use Rattle.sheet_pieces.proofs.Steps.{bytes_front}

-- a rest or a vector is whole: it ends after its head, and inside the file
abbrev pub Placed : ℕ → ℕ → Found → Type 0
Placed n at (Ok None) = Unit {0}
Placed n at (Err why) = Unit {0}
Placed n at (Ok (Some (Rest next))) = (at + 4 ≤ next) × (next ≤ n)
Placed n at (Ok (Some (Vector next))) = (at + 4 ≤ next) × (next ≤ n)

pub entry_placed : (file : List ℕ) (at : ℕ) → Placed (length file) at (entry_at file at)
unfolding entry_at entry_in
entry_placed file at = go (leb n at) (ltb n (at + 4)) (eqb kind 5) (eqb kind 6) (ltb n next) (λ e. (omega arith, ltb-false n next e))
  where
    n : ℕ
    n = length file

    kind : ℕ
    kind = u16_at file (at + 2)

    next : ℕ
    next = at + 4 + u16_at file at

    go : (a b c d e : Bool) → (e ≡ false → (at + 4 ≤ next) × (next ≤ n))
        → Placed n at
        (cond a (Ok None)
        (cond b (Err CutShort) (cond c (cond e (Err CutShort) (Ok (Some (Rest next)))) (cond d (cond e (Err CutShort) (Ok (Some (Vector next)))) (Err BadRecord)))))
    go true b c d e h = tt
    go false true c d e h = tt
    go false false true d true h = tt
    go false false true d false h = h refl
    go false false false true true h = tt
    go false false false true false h = h refl
    go false false false false e h = tt

-- past its end the file has nothing
pub entry_past : (file : List ℕ) (at : ℕ) → length file ≤ at → entry_at file at ≡ (Ok None)
unfolding entry_at entry_in
entry_past file at l = rw (le-leb (length file) at l)

-- Standing

over_stands : (sheet : Sheet) → Good sheet.session → Standing (ended sheet)
over_stands sheet g = record { good = g; deep = λ e. absurd (differ e); counted = λ e. absurd (differ e) }
  where
    differ : Over ≡ Going → ⊥
    differ e = let z : ◌≡◌ {A = ℕ} 0 1 = cc in omega arith

pub fresh_stands : Standing fresh
unfolding fresh
fresh_stands = record { good = none_good; deep = λ e. absurd (differ e); counted = λ e. absurd (differ e) }
  where
    differ : Fresh ≡ Going → ⊥
    differ e = let z : ◌≡◌ {A = ℕ} 0 1 = cc in omega arith

unless_stands : (a : Answer) (sheet : Sheet) (p : Portion) → Good sheet.session → Standing p.after → Standing (piece_unless a sheet p).after
unless_stands (Ok k) sheet p g s = s
unless_stands (Err why) sheet p g s = over_stands sheet g

moved_stands : (sheet : Sheet) → Standing sheet → sheet.stage ≡ Going → (s : Session) → Good s → card_of s ≡ card_of sheet.session
    → (next vectors : ℕ)
    → vectors ≤ next → Standing (moved_sheet sheet s next vectors)
moved_stands sheet t q s good same next vectors l = record { good = good; deep = λ e. t.deep q ∙ ap depth (sym same); counted = λ e. l }

module _ (file : List ℕ) (bytes : Bytes file) where
  card_stands : (sheet : Sheet) → Good sheet.session → Standing (card_piece sheet file).after
  unfolding card_piece
  card_stands sheet g = go (ltb 65536 (length file))
    where
      l : Loaded
      l = load_of none (take (card_end file) file)

      go : (b : Bool) → Standing (cond b (refused_piece sheet NoRoom) (loaded_piece sheet (card_end file) l)).after
      go true = over_stands sheet g
      go false =
          unless_stands l.answer sheet _ g
          (record {
            good = load_good none (take (card_end file) file) none_good (bytes_front (card_end file) file bytes);
            deep = λ e. refl;
            counted = λ e. omega arith;
          })

  entry_stands : (sheet : Sheet) → Standing sheet → sheet.stage ≡ Going → (e : Found) → Placed (length file) sheet.at e
      → Standing (entry_piece sheet file e).after
  entry_stands sheet s q (Ok None) p = over_stands sheet s.good
  entry_stands sheet s q (Err why) p = over_stands sheet s.good
  entry_stands sheet s q (Ok (Some (Rest next))) p =
      let v = body file sheet.at next in
      unless_stands (rest_of sheet.session v).answer sheet _ s.good
      (moved_stands sheet s q _ (rest_good sheet.session s.good v) (rest_card sheet.session v) next _ (omega (arith, s.counted q, p.0)))
  entry_stands sheet s q (Ok (Some (Vector next))) p =
      let v = body file sheet.at next in
      unless_stands (vector_of sheet.session v).answer sheet _ s.good
      (moved_stands sheet s q _ (vector_good sheet.session s.good v) (vector_card sheet.session v) next _ (omega (arith, s.counted q, p.0)))

  pub piece_stands : (sheet : Sheet) → Standing sheet → Standing (piece_of sheet file).after
  unfolding piece_of
  piece_stands sheet s = go sheet.stage refl
    where
      go : (x : Stage) → sheet.stage ≡ x → Standing (piece_at x sheet file).after
      go Fresh e = card_stands sheet s.good
      go Going e = entry_stands sheet s e (entry_at file sheet.at) (entry_placed file sheet.at)
      go Over e = s

-- The bytes left

module _ (file : List ℕ) where
  unless_left : (a : Answer) (sheet : Sheet) (p : Portion) (k : ℕ) → 0 < k → left p.after file < k → left (piece_unless a sheet p).after file < k
  unfolding left
  unless_left (Ok n) sheet p k l h = h
  unless_left (Err why) sheet p k l h = l

  -- every piece leaves fewer, until the sheet is over
  pub piece_falls : (sheet : Sheet) → ¬ (sheet.stage ≡ Over) → left (piece_of sheet file).after file < left sheet file
  unfolding piece_of left card_piece
  piece_falls sheet over = go sheet.stage refl
    where
      l : Loaded
      l = load_of none (take (card_end file) file)

      rest : ℕ
      rest = length file - sheet.at

      card : (b : Bool) → left (cond b (refused_piece sheet NoRoom) (loaded_piece sheet (card_end file) l)).after file < length file + 2
      card true = omega arith
      card false = unless_left l.answer sheet _ (length file + 2) (omega arith) (omega arith)

      entry : (e : Found) → Placed (length file) sheet.at e → left (entry_piece sheet file e).after file < rest + 1
      entry (Ok None) p = omega arith
      entry (Err why) p = omega arith
      entry (Ok (Some (Rest next))) p =
          unless_left (rest_of sheet.session (body file sheet.at next)).answer sheet _ (rest + 1) (omega arith) (omega (arith, p.0, p.1))
      entry (Ok (Some (Vector next))) p =
          unless_left (vector_of sheet.session (body file sheet.at next)).answer sheet _ (rest + 1) (omega arith) (omega (arith, p.0, p.1))

      go : (x : Stage) → sheet.stage ≡ x → left (piece_at x sheet file).after file < left_at x (length file) rest
      go Fresh e = card (ltb 65536 (length file))
      go Going e = entry (entry_at file sheet.at) (entry_placed file sheet.at)
      go Over e = absurd (over e)

  -- so while it is not over
  pub going_falls : (sheet : Sheet) → is_over sheet.stage ≡ false → left (piece_of sheet file).after file < left sheet file
  going_falls sheet e = piece_falls sheet (λ o. true≢false (ap is_over (sym o) ∙ e))
