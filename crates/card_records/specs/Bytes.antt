-- Card bytes: the record that stands at a place. Assumes nothing.
-- "Each record is a two-byte body length, a two-byte kind, then the body. All numbers are little-endian."
use Rattle.std.specs.Prelude.{Bool, true, false, cond, ◌&&◌, List, ℕ, ◌+◌, ◌-◌, ◌*◌, ◌/◌, ◌%◌, ltb, leb, eqb, length, get_or, Result, Ok, Err}
use Rattle.card_records.specs.declared.Fault.{Fault}
use Rattle.card_records.specs.declared.Fault.TheVariants.{NoHead, BadHead, NoBody, BadBody}
use Rattle.card_records.specs.declared.NetRecord.{NetRecord}
use Rattle.card_records.specs.declared.Record.{Record}
use Rattle.card_records.specs.declared.Record.TheVariants.{End, Net}

-- two bytes, the low one first
unfoldable pub u16_at : List ℕ → ℕ → ℕ
u16_at s i = get_or s i 0 + 256 * get_or s (i + 1) 0

-- which body lengths fit which kind: an input and the end have no body, a constant one byte, a gate its type and 2 bytes a pin, 1 to 8 pins
unfoldable pub kind_fits : ℕ → ℕ → Bool
kind_fits kind len =
    cond (eqb kind 1) (eqb len 0)
    (cond (eqb kind 2) (eqb len 1)
    (cond (eqb kind 3) (leb 3 len && (leb len 17 && eqb (len % 2) 1))
    (cond (eqb kind 4) (eqb len 0)
    false)))

-- "0 BUF, 1 NOT (one pin each); 2 AND, 3 NAND, 4 OR, 5 NOR, 6 XOR, 7 XNOR (2 to 8 pins each)"
unfoldable pub type_fits : ℕ → ℕ → Bool
type_fits ty count = cond (ltb ty 2) (eqb count 1) (ltb ty 8 && leb 2 count)

-- how many pins a gate's body has
abbrev pub pin_count : ℕ → ℕ
pin_count len = (len - 1) / 2

-- whether a body's contents are right: a constant 0 or 1, a known type with a pin count that fits it. `first` is its first byte
unfoldable pub body_fits : ℕ → ℕ → ℕ → Bool
body_fits kind len first = cond (eqb kind 2) (ltb first 2) (cond (eqb kind 3) (type_fits first (pin_count len)) true)

-- a net's record with its body at a place: its kind, a constant's value or a gate's type, where its pins start and how many they are, and
-- the place after it. `first` is the body's first byte
unfoldable pub net_record : ℕ → ℕ → ℕ → ℕ → NetRecord
net_record kind len body first = record {
  kind = kind;
  ty = cond (eqb kind 1) 0 first;
  start = body + 1;
  count = cond (eqb kind 3) (pin_count len) 0;
  next = body + len;
}

-- "head (1), kind and length (2), body present (1), body's contents (2)"; kinds 5 and 6 are unknown here. There are n bytes, and the head at
-- that place says a kind and a length
unfoldable pub record_at : (n at kind len first : ℕ) → Result Record Fault
record_at n at kind len first =
    cond (ltb n (at + 4)) (Err NoHead)
    (cond (kind_fits kind len)
    (cond (ltb n (at + 4 + len)) (Err NoBody)
    (cond (body_fits kind len first)
    (cond (eqb kind 4) (Ok (End (at + 4))) (Ok (Net (net_record kind len (at + 4) first))))
    (Err (BadBody (at + 4 + len)))))
    (Err BadHead))

unfoldable pub record_read : List ℕ → ℕ → Result Record Fault
record_read s at = record_at (length s) at (u16_at s (at + 2)) (u16_at s at) (get_or s (at + 4) 0)
