-- One step: what a piece hands back, by what the operation that it calls answers. Assumes nothing.
use mathlib.Core.Path.{◌≡◌, refl, sym, ap, ap₂, ◌∙◌, subst}
use mathlib.Core.List.{List}
use Prim.Native.Nat.{ℕ, ◌≤◌, ◌<◌}
use native.Mathlib.Omega.{arith}
use lib.Dec.{lit<}
use lib.ListN.{length, take}
use borrow.Author.Tests.{lt-ltb, le-ltb}
use Rattle.lists.proofs.Places.{part_all}
use Rattle.rule.specs.declared.Refusal.{Refusal}
use Rattle.rule.specs.declared.Refusal.TheVariants.{NoRoom}
use Rattle.rule.specs.Answers.{Answer}
use Rattle.std.specs.Prelude.{Ok, Err}
use Rattle.card_records.specs.Written.{Bytes}
use Rattle.card.specs.declared.Session.{Session}
use Rattle.card.specs.Loaded.{Loaded}
use Rattle.card.specs.Session.{none}
use Rattle.card.specs.Load.{load_of}
use Rattle.session.specs.Moved.{Moved}
use Rattle.sheet_text.specs.Lines.{refused_line}
use Rattle.sheet_pieces.specs.Inner.Comes.{Comes}
use Rattle.text.specs.Inner.Put.{Put}
use Rattle.sheet_pieces.specs.declared.Sheet.{Sheet}
use Rattle.sheet_pieces.specs.declared.Stage.{Stage}
use Rattle.sheet_text.specs.Walk.{card_end}
use Rattle.sheet_pieces.specs.Pieces.{ended, Portion, Written, refused_piece, piece_unless, loaded_piece, card_piece, piece_at, piece_of, written}

-- a text put at the front of the page, and the sheet after it
pub hand_back : (p : Portion) {sheet : Sheet} {old new : List ℕ} {n : ℕ} → sheet ≡ p.after → Put p.text old 0 new n
    → ◌≡◌ {A = Written} (record { piece = record { sheet = sheet; length = n }; page = new }) (written p old)
unfolding written
hand_back p {n = n} e q =
    let l : n ≡ length p.text = omega (arith, q.end_is) in
    λ i. record { piece = record { sheet = e i; length = l i }; page = q.page_is i }

-- a piece that is another's
pub hand_on : {x : Written} (old : List ℕ) {p q : Portion} → p ≡ q → x ≡ written p old → x ≡ written q old
hand_on old e w = w ∙ ap (λ r. written r old) e

pub piece_at_lem : (sheet : Sheet) (file : List ℕ) (x : Stage) → sheet.stage ≡ x → piece_at x sheet file ≡ piece_of sheet file
unfolding piece_of
piece_at_lem sheet file x e = ap (λ y. piece_at y sheet file) (sym e)

-- An answer decides between a refusal and a portion

pub refused_so : (a : Answer) (sheet : Sheet) (p : Portion) (why : Refusal) → a ≡ Err why → refused_piece sheet why ≡ piece_unless a sheet p
refused_so a sheet p why e = ap (λ x. piece_unless x sheet p) (sym e)

pub done_so : (a : Answer) (sheet : Sheet) (p : Portion) (k : ℕ) → a ≡ Ok k → p ≡ piece_unless a sheet p
done_so a sheet p k e = ap (λ x. piece_unless x sheet p) (sym e)

-- The card

pub card_long : (sheet : Sheet) (file : List ℕ) → 65536 < length file → refused_piece sheet NoRoom ≡ card_piece sheet file
unfolding card_piece
card_long sheet file l = rw (lt-ltb 65536 (length file) l)

pub card_loads : (sheet : Sheet) (file : List ℕ) (empty : Session) (end : ℕ) (l : Loaded) → length file ≤ 65536 → empty ≡ none → end ≡ card_end file
    → l ≡ load_of empty (take end file)
    → loaded_piece sheet end l ≡ card_piece sheet file
unfolding card_piece
card_loads sheet file empty end l short en ee el =
    ap₂ (loaded_piece sheet) ee (el ∙ ap₂ (λ s n. load_of s (take n file)) en ee) ∙ rw (le-ltb 65536 (length file) short)

-- its bytes are bytes
pub bytes_front : (n : ℕ) (s : List ℕ) → Bytes s → Bytes (take n s)
bytes_front n s b = part_all (λ x. x < 256) (lit< tt) s b 0 n

-- A step that a session's answer decides: a refusal leaves sheet and page as they were

pub came_err : (sheet : Sheet) (m : Moved) (s : Session) (why : Refusal) (p : Portion) (page : List ℕ)
    → ◌≡◌ {A = Moved} (record { answer = Err why; session = s }) m → m.session ≡ sheet.session
    → Comes (piece_unless m.answer sheet p) sheet page (Err why)
    (record { session = s; depth = sheet.depth; at = sheet.at; vectors = sheet.vectors; stage = sheet.stage }) page
came_err sheet m s why p page e k = (
  sym (refused_so m.answer sheet p why (sym (ap (λ x. x.answer) e))),
  λ i. record { session = (ap (λ x. x.session) e ∙ k) i; depth = sheet.depth; at = sheet.at; vectors = sheet.vectors; stage = sheet.stage },
  refl,
)

pub came_ok : (sheet after : Sheet) (m : Moved) (s : Session) (k n : ℕ) (p : Portion) (page new : List ℕ)
    → ◌≡◌ {A = Moved} (record { answer = Ok k; session = s }) m → after ≡ p.after → Put p.text page 0 new n
    → Comes (piece_unless m.answer sheet p) sheet page (Ok n) after new
came_ok sheet after m s k n p page new e a q = hand_on page (done_so m.answer sheet p k (sym (ap (λ x. x.answer) e))) (hand_back p a q)

-- a refusal with its line is the piece
pub comes_refused : (p : Portion) (sheet : Sheet) (why : Refusal) (after ended_so : Sheet) (old mid new : List ℕ) (n : ℕ)
    → Comes p sheet old (Err why) after mid → ended_so ≡ ended after → Put (refused_line why) mid 0 new n
    → ◌≡◌ {A = Written} (record { piece = record { sheet = ended_so; length = n }; page = new }) (written p old)
comes_refused p sheet why after ended_so old mid new n c e q =
    hand_on old (sym c.0) (hand_back (refused_piece sheet why) (e ∙ ap ended c.1) (subst (λ x. Put (refused_line why) x 0 new n) c.2 q))
