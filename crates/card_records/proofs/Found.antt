-- What stands at a place of the bytes, case by case, and that it is what `record_read` says. Assumes nothing.
use mathlib.Core.Path.{◌≡◌, refl}
use mathlib.Core.Bool.{Bool, true, false, cond}
use mathlib.Core.List.{List}
use Prim.Native.Nat.{ℕ, ◌+◌, ◌≤◌, ◌<◌}
use native.Mathlib.Omega.{arith}
use lib.Dec.{ltb, eqb}
use lib.ListN.{length, get_or}
use borrow.Author.Tests.{lt-ltb, le-ltb, eq-eqb, ne_eqb, ltb-true, ltb-false, eqb-true, eqb-false}
use Rattle.std.specs.Prelude.{Result, Ok, Err}
use Rattle.card_records.specs.declared.Fault.{Fault}
use Rattle.card_records.specs.declared.Fault.TheVariants.{NoHead, BadHead, NoBody, BadBody}
use Rattle.card_records.specs.declared.Record.{Record}
use Rattle.card_records.specs.declared.Record.TheVariants.{End, Net}
use Rattle.card_records.specs.Bytes.{u16_at, kind_fits, body_fits, net_record, record_at, record_read}

-- what holds of the answer in either case of a test holds of the answer
by_test : (P : Result Record Fault → Type 0) (b : Bool) (x y : Result Record Fault) → (b ≡ true → P x) → (b ≡ false → P y) → P (cond b x y)
by_test P true x y p q = p refl
by_test P false x y p q = q refl

-- a head and a body that are right
pub record Whole (n at kind len first : ℕ) : Type 0 where
  pub inside : at + 4 + len ≤ n
  pub head : kind_fits kind len ≡ true
  pub body : body_fits kind len first ≡ true

-- in n bytes, where a head says a kind and a length; `first` is its body's first byte
pub data Found (n at kind len first : ℕ) : Result Record Fault → Type 0 where
  no_head : n < at + 4 → Found n at kind len first (Err NoHead)
  bad_head : at + 4 ≤ n → kind_fits kind len ≡ false → Found n at kind len first (Err BadHead)
  no_body : at + 4 ≤ n → kind_fits kind len ≡ true → n < at + 4 + len → Found n at kind len first (Err NoBody)
  bad_body : at + 4 + len ≤ n → kind_fits kind len ≡ true → body_fits kind len first ≡ false → Found n at kind len first (Err (BadBody (at + 4 + len)))
  end : Whole n at kind len first → kind ≡ 4 → Found n at kind len first (Ok (End (at + 4)))
  net : Whole n at kind len first → ¬ (kind ≡ 4) → Found n at kind len first (Ok (Net (net_record kind len (at + 4) first)))

pub found : (n at kind len first : ℕ) → Found n at kind len first (record_at n at kind len first)
unfolding record_at
found n at kind len first =
    by_test (Found n at kind len first) (ltb n (at + 4)) _ _ (λ h. no_head (ltb-true n (at + 4) h)) (λ h.
    let there = ltb-false n (at + 4) h in
    by_test (Found n at kind len first) (kind_fits kind len) _ _ (λ k.
    by_test (Found n at kind len first) (ltb n (at + 4 + len)) _ _ (λ b. no_body there k (ltb-true n (at + 4 + len) b)) (λ b.
    let inside = ltb-false n (at + 4 + len) b in
    by_test (Found n at kind len first) (body_fits kind len first) _ _ (λ f.
    let whole : Whole n at kind len first = record { inside = inside; head = k; body = f } in
    by_test (Found n at kind len first) (eqb kind 4) _ _ (λ e. end whole (eqb-true kind 4 e)) (λ e. net whole (eqb-false kind 4 e)))
    (λ f. bad_body inside k f)))
    (λ k. bad_head there k))

pub found_only : (n at kind len first : ℕ) (r : Result Record Fault) → Found n at kind len first r → r ≡ record_at n at kind len first
unfolding record_at
found_only n at kind len first r (no_head h) = rw (lt-ltb n (at + 4) h)
found_only n at kind len first r (bad_head h k) = rw (le-ltb n (at + 4) h, k)
found_only n at kind len first r (no_body h k b) = rw (le-ltb n (at + 4) h, k, lt-ltb n (at + 4 + len) b)
found_only n at kind len first r (bad_body b k f) =
    let h : at + 4 ≤ n = omega arith in
    rw (le-ltb n (at + 4) h, k, le-ltb n (at + 4 + len) b, f)
found_only n at kind len first r (end w e) =
    let h : at + 4 ≤ n = omega (arith, w.inside) in
    rw (le-ltb n (at + 4) h, w.head, le-ltb n (at + 4 + len) w.inside, w.body, eq-eqb kind 4 e)
found_only n at kind len first r (net w e) =
    let h : at + 4 ≤ n = omega (arith, w.inside) in
    rw (le-ltb n (at + 4) h, w.head, le-ltb n (at + 4 + len) w.inside, w.body, ne_eqb kind 4 e)

-- the same of the bytes

abbrev pub FoundAt : List ℕ → ℕ → Result Record Fault → Type 0
FoundAt s at r = Found (length s) at (u16_at s (at + 2)) (u16_at s at) (get_or s (at + 4) 0) r

pub found_at : (s : List ℕ) (at : ℕ) → FoundAt s at (record_read s at)
unfolding record_read
found_at s at = found (length s) at (u16_at s (at + 2)) (u16_at s at) (get_or s (at + 4) 0)

pub read_as : (s : List ℕ) (at kind len first : ℕ) (r : Result Record Fault) → kind ≡ u16_at s (at + 2) → len ≡ u16_at s at → first ≡ get_or s (at + 4) 0
    → Found (length s) at kind len first r → r ≡ record_read s at
unfolding record_read
read_as s at kind len first r ek el ef f = rw (← ek, ← el, ← ef) (found_only (length s) at kind len first r f)

-- the place after a record is past its head and inside the bytes
abbrev pub Onward : ℕ → ℕ → Result Record Fault → Type 0
Onward n at (Err NoHead) = Unit {0}
Onward n at (Err BadHead) = Unit {0}
Onward n at (Err NoBody) = Unit {0}
Onward n at (Err (BadBody next)) = (at + 4 ≤ next) × (next ≤ n)
Onward n at (Ok (End next)) = (at + 4 ≤ next) × (next ≤ n)
Onward n at (Ok (Net r)) = (at + 4 ≤ r.next) × (r.next ≤ n)

pub onward : (s : List ℕ) (at : ℕ) → Onward (length s) at (record_read s at)
unfolding net_record
onward s at = go (length s) (u16_at s (at + 2)) (u16_at s at) (get_or s (at + 4) 0) (record_read s at) (found_at s at)
  where
    go : (n kind len first : ℕ) (r : Result Record Fault) → Found n at kind len first r → Onward n at r
    go n kind len first r (no_head h) = tt
    go n kind len first r (bad_head h k) = tt
    go n kind len first r (no_body h k b) = tt
    go n kind len first r (bad_body b k f) = (omega arith, b)
    go n kind len first r (end w e) = (omega arith, omega (arith, w.inside))
    go n kind len first r (net w e) = (omega arith, w.inside)
