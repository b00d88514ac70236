-- What is lent of a room: a part of one that was made. Assumes nothing.
use mathlib.Core.Path.{◌≡◌, sym, ap, ◌∙◌}
use mathlib.Core.List.{◌++◌}
use Prim.Native.Nat.{ℕ, ◌≤◌, ◌+◌, ◌-◌}
use native.Mathlib.Omega.{arith}
use lib.ListN.{length, take, drop, replicate, length-replicate, replicate-append-replicate}
use lib.Seq.{length-take-le}
use Rattle.std.proofs.lemmas.List.{take-replicate, drop-replicate}
use Rattle.std.specs.Prelude.{Err}
use Rattle.rule.specs.declared.Refusal.{Refusal}
use Rattle.card.specs.declared.Session.{Session}
use Rattle.step_records.specs.Records.{Answered, records_of}
use Rattle.step_records.proofs.Listings.{records_refused}
use Rattle.drill.specs.Inner.Rooms.{lent_record, lent_records, recorded_in}

-- the first n entries of `[v; k]` are n
pub lent : (n k v : ℕ) → n ≤ k → n ≡ length (take n (replicate k v))
lent n k v l = sym (length-take-le n (replicate k v) (omega (arith, length-replicate k v)))

-- the room for records is the part that is lent, and the rest
pub parted : (n k : ℕ) → n ≤ k → lent_records k ≡ (lent_records n ++ lent_records (k - n))
parted n k few = let whole : n + (k - n) ≡ k = omega arith in sym (replicate-append-replicate n (k - n) lent_record ∙ ap lent_records whole)

-- a refusal leaves all of it as it was
pub recorded_refused : (s : Session) (n : ℕ) (why : Refusal) → n ≤ 20000 → (recorded_in s n).answer ≡ Err why → (recorded_in s n).room ≡ lent_records 20000
recorded_refused s n why few e = ap (λ r. r ++ lent_records (20000 - n)) (records_refused s (lent_records n) why e).0 ∙ sym (parted n 20000 few)

-- the list was put into the part that is lent
pub recorded_is : (s : Session) (n : ℕ) (left : Answered) → n ≤ 20000 → left ≡ records_of s (take n (lent_records 20000))
    → ◌≡◌ {A = Answered} (record { answer = left.answer; room = left.room ++ drop n (lent_records 20000) }) (recorded_in s n)
recorded_is s n left few e =
    ap (λ x. record { answer = left.answer; room = left.room ++ x }) (drop-replicate n 20000 lent_record)
    ∙ ap (λ (x : Answered). record { answer = x.answer; room = x.room ++ lent_records (20000 - n) }) (e ∙ ap (records_of s) (take-replicate n 20000 lent_record few))
