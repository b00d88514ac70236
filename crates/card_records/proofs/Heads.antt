-- What the tests on a record's head and body tell: which kind has which length, which type how many pins. Assumes nothing.
use mathlib.Core.Path.{◌≡◌, refl, sym, ap, ◌∙◌}
use mathlib.Core.Bool.{Bool, true, false, cond, ◌&&◌, false≢true}
use Prim.Native.Nat.{ℕ, ◌%◌, ◌≤◌, ◌<◌}
use native.Mathlib.Omega.{arith}
use lib.Dec.{ltb, leb, eqb}
use borrow.Author.Tests.{lt-ltb, ltb-true, leb-true, eqb-true, eq-eqb, le-leb}
use Rattle.lists.proofs.Bools.{and_both}
use Rattle.card_records.specs.Bytes.{kind_fits, type_fits}

-- a record's kind and length that fit each other
pub data KindIs (kind len : ℕ) : Type 0 where
  of_input : kind ≡ 1 → len ≡ 0 → KindIs kind len
  of_constant : kind ≡ 2 → len ≡ 1 → KindIs kind len
  of_gate : kind ≡ 3 → 3 ≤ len → len ≤ 17 → len % 2 ≡ 1 → KindIs kind len
  of_end : kind ≡ 4 → len ≡ 0 → KindIs kind len

pub kind_is : (kind len : ℕ) → kind_fits kind len ≡ true → KindIs kind len
unfolding kind_fits
kind_is kind len h = go (eqb kind 1) refl (eqb kind 2) refl (eqb kind 3) refl (eqb kind 4) refl h
  where
    odd : kind ≡ 3 → (leb 3 len && (leb len 17 && eqb (len % 2) 1)) ≡ true → KindIs kind len
    odd e h =
        let low = and_both (leb 3 len) (leb len 17 && eqb (len % 2) 1) h in
        let high = and_both (leb len 17) (eqb (len % 2) 1) low.1 in
        of_gate e (leb-true 3 len low.0) (leb-true len 17 high.0) (eqb-true (len % 2) 1 high.1)

    go : (a : Bool) → eqb kind 1 ≡ a → (b : Bool) → eqb kind 2 ≡ b → (c : Bool) → eqb kind 3 ≡ c → (d : Bool) → eqb kind 4 ≡ d
        → cond a (eqb len 0) (cond b (eqb len 1) (cond c (leb 3 len && (leb len 17 && eqb (len % 2) 1)) (cond d (eqb len 0) false))) ≡ true → KindIs kind len
    go true p b q c r d t h = of_input (eqb-true kind 1 p) (eqb-true len 0 h)
    go false p true q c r d t h = of_constant (eqb-true kind 2 q) (eqb-true len 1 h)
    go false p false q true r d t h = odd (eqb-true kind 3 r) h
    go false p false q false r true t h = of_end (eqb-true kind 4 t) (eqb-true len 0 h)
    go false p false q false r false t h = absurd (false≢true h)

pub kind_fits_lem : (kind len : ℕ) → KindIs kind len → kind_fits kind len ≡ true
unfolding kind_fits
kind_fits_lem kind len (of_input e l) = rw (e, l)
kind_fits_lem kind len (of_constant e l) = rw (e, l)
kind_fits_lem kind len (of_gate e a b o) = rw (e, le-leb 3 len a, le-leb len 17 b, eq-eqb (len % 2) 1 o)
kind_fits_lem kind len (of_end e l) = rw (e, l)

-- no body is longer than that of a gate of 8 pins
pub kind_short : {kind len : ℕ} → KindIs kind len → len ≤ 17
kind_short (of_input e l) = omega arith
kind_short (of_constant e l) = omega arith
kind_short (of_gate e a b o) = b
kind_short (of_end e l) = omega arith

-- a gate's length, and the end's
pub gate_length : (kind len : ℕ) → kind_fits kind len ≡ true → kind ≡ 3 → (3 ≤ len) × (len ≤ 17) × (len % 2 ≡ 1)
gate_length kind len h e = go (kind_is kind len h)
  where
    go : KindIs kind len → (3 ≤ len) × (len ≤ 17) × (len % 2 ≡ 1)
    go (of_input q l) = absurd (omega arith)
    go (of_constant q l) = absurd (omega arith)
    go (of_gate q a b o) = (a, b, o)
    go (of_end q l) = absurd (omega arith)

pub end_length : (kind len : ℕ) → kind_fits kind len ≡ true → kind ≡ 4 → len ≡ 0
unfolding kind_fits
end_length kind len h e = eqb-true len 0 (rw e at h)

-- a kind that fits and is none of the others is a gate's
pub kind_gate : (kind len : ℕ) → kind_fits kind len ≡ true → ¬ (kind ≡ 1) → ¬ (kind ≡ 2) → ¬ (kind ≡ 4) → kind ≡ 3
kind_gate kind len h n1 n2 n4 = go (kind_is kind len h)
  where
    go : KindIs kind len → kind ≡ 3
    go (of_input q l) = absurd (n1 q)
    go (of_constant q l) = absurd (n2 q)
    go (of_gate q a b o) = q
    go (of_end q l) = absurd (n4 q)

-- BUF and NOT have one pin
pub type_single : (ty count : ℕ) → type_fits ty count ≡ true → ty < 2 → count ≡ 1
unfolding type_fits
type_single ty count h l = eqb-true count 1 (ap (λ b. cond b (eqb count 1) (ltb ty 8 && leb 2 count)) (sym (lt-ltb ty 2 l)) ∙ h)

-- a known type, and at least one pin
pub type_known : (ty count : ℕ) → type_fits ty count ≡ true → (ty < 8) × (0 < count)
unfolding type_fits
type_known ty count h = go (ltb ty 2) refl h
  where
    go : (a : Bool) → ltb ty 2 ≡ a → cond a (eqb count 1) (ltb ty 8 && leb 2 count) ≡ true → (ty < 8) × (0 < count)
    go true p h = let a = ltb-true ty 2 p in let b = eqb-true count 1 h in (omega arith, omega arith)
    go false p h =
        let both = and_both (ltb ty 8) (leb 2 count) h in
        let a = leb-true 2 count both.1 in
        (ltb-true ty 8 both.0, omega arith)
