-- A session file: where its card ends, and what stands at a place after it. Assumes nothing.
use Rattle.std.specs.Prelude.{Bool, cond, ◌&&◌, List, Option, Some, None, Result, Ok, Err, ℕ, zero, suc, ◌+◌, ◌-◌, eqb, leb, ltb, length, take, drop}
use Rattle.rule.specs.declared.Refusal.{Refusal}
use Rattle.rule.specs.declared.Refusal.TheVariants.{CutShort, BadRecord}
use Rattle.card_records.specs.Bytes.{u16_at}
use Rattle.sheet_text.specs.declared.Entry.{Entry}
use Rattle.sheet_text.specs.declared.Entry.TheVariants.{Rest, Vector}

-- Kind 4: "empty", "end of card". A record of kind 4 with a body is no end record: it is walked over, and load refuses it (2)
abbrev pub is_end : (kind len : ℕ) → Bool
is_end kind len = eqb kind 4 && eqb len 0

-- the place after the first end record, from a record on, and the end of the file if there is none; the heads are walked, k of them at most
unfoldable pub end_from : ℕ → List ℕ → ℕ → ℕ
end_from zero file at = length file
end_from (suc k) file at =
    cond (ltb (length file) (at + 4)) (length file)
    (cond (is_end (u16_at file (at + 2)) (u16_at file at)) (at + 4) (end_from k file (at + 4 + u16_at file at)))

-- "Everything up to and including the first end record is loaded (everything, if there is none)."
unfoldable pub card_end : List ℕ → ℕ
card_end file = end_from (length file) file 0

-- what is found at a place after the card: the end of the file, a record, or what refuses it
abbrev pub Found : Type 0
Found = Result (Option Entry) Refusal

-- a record of kind 5 or 6 is there as far as the place after it, or the input ends inside its body
abbrev pub whole : (n next : ℕ) → Entry → Found
whole n next entry = cond (ltb n next) (Err CutShort) (Ok (Some entry))

-- "Then come records of kind 5 and 6, of any length, checked 1, 2, 1 as above (any other kind gets 2)": head (1), kind (2), body present (1).
-- There are n bytes, and the head at that place says a kind and a length
unfoldable pub entry_in : (n at kind len : ℕ) → Found
entry_in n at kind len =
    cond (leb n at) (Ok None)
    (cond (ltb n (at + 4)) (Err CutShort)
    (cond (eqb kind 5) (whole n (at + 4 + len) (Rest (at + 4 + len)))
    (cond (eqb kind 6) (whole n (at + 4 + len) (Vector (at + 4 + len)))
    (Err BadRecord))))

unfoldable pub entry_at : List ℕ → ℕ → Found
entry_at file at = entry_in (length file) at (u16_at file (at + 2)) (u16_at file at)

-- the body of the record at a place, which ends at `next`
abbrev pub body : List ℕ → ℕ → ℕ → List ℕ
body file at next = take (next - (at + 4)) (drop (at + 4) file)
