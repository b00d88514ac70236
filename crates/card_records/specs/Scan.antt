-- Card bytes: the nets that they mean, or why they are refused. "nets, numbered from 0 in the order of their records". Assumes nothing.
use Rattle.std.specs.Prelude.{cond, List, [], ◌∷◌, ◌++◌, ℕ, zero, suc, ◌+◌, ◌*◌, eqb, length, Result, Ok, Err}
use Rattle.lists.specs.Listed.{listed}
use Rattle.rule.specs.Net.{Net}
use Rattle.rule.specs.declared.Refusal.{Refusal}
use Rattle.rule.specs.declared.Refusal.TheVariants.{CutShort, BadRecord, TooManyNets, BytesAfter}
use Rattle.card_wiring.specs.Layout.{net_of}
use Rattle.card_records.specs.declared.Fault.{Fault}
use Rattle.card_records.specs.declared.Fault.TheVariants.{NoHead, BadHead, NoBody, BadBody}
use Rattle.card_records.specs.declared.NetRecord.{NetRecord}
use Rattle.card_records.specs.declared.Record.{Record}
use Rattle.card_records.specs.declared.Record.TheVariants.{End, Net as Netted}
use Rattle.card_records.specs.Bytes.{u16_at, record_read}

-- "input ends inside a head or body" (1); "kind unknown, length wrong for the kind, constant not 0 or 1, gate type unknown, pin count wrong
-- for the type" (2)
abbrev pub fault_of : Fault → Refusal
fault_of NoHead = CutShort
fault_of BadHead = BadRecord
fault_of NoBody = CutShort
fault_of (BadBody next) = BadRecord

-- what the bytes mean: refused, or the nets of a card
pub data Meaning : Type 0 where
  Stops : Refusal → Meaning
  Means : List Net → Meaning

-- the net that a record means
unfoldable pub net_meant : List ℕ → NetRecord → Net
net_meant s r = net_of r.kind r.ty (listed (λ j. u16_at s (r.start + 2 * j)) r.count)

-- one record, with the nets so far; `more` says what a further net leads to
abbrev pub one : List ℕ → Result Record Fault → List Net → (Net → ℕ → Meaning) → Meaning
one s (Err f) nets more = Stops (fault_of f)
one s (Ok (End next)) nets more = cond (eqb next (length s)) (Means nets) (Stops BytesAfter)
one s (Ok (Netted r)) nets more = more (net_meant s r) r.next

-- from a place, with the nets so far and room for so many more
unfoldable pub scan : ℕ → List ℕ → ℕ → List Net → Meaning
scan zero s at nets = one s (record_read s at) nets (λ w next. Stops TooManyNets)
scan (suc room) s at nets = one s (record_read s at) nets (λ w next. scan room s next (nets ++ (w ∷ [])))

-- the card of some bytes
abbrev pub meaning : List ℕ → Meaning
meaning s = scan 256 s 0 []
