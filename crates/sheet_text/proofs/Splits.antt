-- A session file that starts with a card as it is written: exactly the card is loaded, whatever stands after it. Assumes nothing.
use mathlib.Core.Path.{◌≡◌, refl, sym, ap, ap₂, ◌∙◌}
use mathlib.Core.Bool.{false}
use mathlib.Core.List.{List, [], ◌∷◌, ◌++◌, append_assoc}
use Prim.Native.Nat.{ℕ, ◌+◌, ◌≤◌}
use native.Mathlib.Omega.{arith}
use lib.ListN.{length, take, drop, length-append, length-drop}
use lib.Seq.{drop-drop, drop-append_seam, take-append_seam}
use borrow.Author.Tests.{ne_eqb, le-ltb}
use Rattle.lists.specs.Entries.{each}
use Rattle.rule.specs.Net.{Net}
use Rattle.rule.specs.Level.{depth}
use Rattle.rule.specs.Steps.{step_list}
use Rattle.card_wiring.specs.Layout.{kind_of}
use Rattle.card_records.specs.Bytes.{u16_at}
use Rattle.card_records.specs.Written.{record_of, body_of, net_bytes, end_bytes, card_bytes, Bytes}
use Rattle.card_records.proofs.Again.{net_no_end, two_of}
use Rattle.card.specs.Session.{none, session_of}
use Rattle.card.specs.Load.{load_of, taken}
use Rattle.card.specs.Allowed.{Accepted}
use Rattle.card.proofs.Kept.{session_card}
use Rattle.card.proofs.Verdicts.{load_takes}
use Rattle.sheet_text.specs.Lines.{first_line, card_text}
use Rattle.sheet_text.specs.Walk.{is_end, card_end}
use Rattle.sheet_text.specs.Sheet.{records_text, loaded_text, sheet_of}
use Rattle.sheet_text.proofs.Walks.{ending, end_first, end_here, end_on}

not_end : (w : Net) (len : ℕ) → is_end (kind_of w) len ≡ false
not_end w len = rw (ne_eqb (kind_of w) 4 (net_no_end w))

module _ (s : List ℕ) where
  -- a head that stands at a place

  module _ (at kind : ℕ) (body later : List ℕ) (e : drop at s ≡ record_of kind body ++ later) where
    len_at : length body ≡ u16_at s at
    len_at = sym (two_of s at (length body) _ e)

    kind_at : kind ≡ u16_at s (at + 2)
    kind_at = sym (two_of s (at + 2) kind (body ++ later) (sym (drop-drop 2 at s) ∙ ap (drop 2) e))

    inside : at + 4 ≤ length s
    inside = omega (arith, length-drop at s, ap length e)

    after : drop (at + 4 + length body) s ≡ later
    after = sym (drop-drop (length body) (at + 4) s) ∙ ap (drop (length body)) (sym (drop-drop 4 at s) ∙ ap (drop 4) e) ∙ drop-append_seam body later

  -- the walk passes the nets, and ends at the end record
  walk_ends : (c : List Net) (at : ℕ) (later : List ℕ) → drop at s ≡ each net_bytes c ++ (end_bytes ++ later)
      → ending s at ≡ at + length (each net_bytes c) + 4
  unfolding net_bytes
  walk_ends [] at later e = end_here s at 4 0 (inside at 4 [] later e) (kind_at at 4 [] later e) (len_at at 4 [] later e) refl ∙ omega arith
  walk_ends (w ∷ c) at later e =
      let kind = kind_of w in
      let body = body_of w in
      let rest = each net_bytes c ++ (end_bytes ++ later) in
      let f : drop at s ≡ record_of kind body ++ rest = e ∙ append_assoc (record_of kind body) (each net_bytes c) (end_bytes ++ later) in
      end_on s at kind (length body) (inside at kind body rest f) (kind_at at kind body rest f) (len_at at kind body rest f) (not_end w (length body))
      ∙ walk_ends c (at + 4 + length body) later (after at kind body rest f)
      ∙ omega (arith, length-append (record_of kind body) (each net_bytes c))

-- what the sheet says of a card that is taken

card_said : (c : List Net) → Accepted c → card_text (session_of c) ≡ first_line (depth c) (length (step_list c))
unfolding card_text
card_said c a = ap (λ d. first_line (depth d) (length (step_list d))) (session_card c a)

taken_said : (c : List Net) (file : List ℕ)
    → loaded_text file (taken c) ≡ card_text (session_of c) ++ records_text (length file) file (card_end file) (session_of c) 0
unfolding loaded_text
taken_said c file = refl

module _ (c : List Net) (later : List ℕ) where
  abbrev file : List ℕ
  file = card_bytes c ++ later

  pub card_ends : card_end file ≡ length (card_bytes c)
  unfolding card_bytes
  card_ends =
      sym (end_first file)
      ∙ walk_ends file c 0 later (append_assoc (each net_bytes c) end_bytes later)
      ∙ omega (arith, length-append (each net_bytes c) end_bytes)

  pub card_loaded : take (card_end file) file ≡ card_bytes c
  card_loaded = ap (λ n. take n file) card_ends ∙ take-append_seam (card_bytes c) later

  -- a card that document 01 allows, and then anything: the first line is the card's, and the records stand right after it
  pub sheet_of_card : Accepted c → Bytes (card_bytes c) → length file ≤ 65536
      → sheet_of file ≡ first_line (depth c) (length (step_list c)) ++ records_text (length file) file (length (card_bytes c)) (session_of c) 0
  unfolding sheet_of
  sheet_of_card a bytes short =
      rw (le-ltb 65536 (length file) short)
      (ap (λ p. loaded_text file (load_of none p)) card_loaded
      ∙ ap (loaded_text file) (load_takes none (card_bytes c) bytes (record { card = c; bytes = refl; accepted = a }))
      ∙ said)
    where
      first : card_text (session_of c) ≡ first_line (depth c) (length (step_list c))
      first = card_said c a

      said : loaded_text file (taken c)
          ≡ first_line (depth c) (length (step_list c)) ++ records_text (length file) file (length (card_bytes c)) (session_of c) 0
      said = taken_said c file ∙ ap₂ (λ x n. x ++ records_text (length file) file n (session_of c) 0) first card_ends
