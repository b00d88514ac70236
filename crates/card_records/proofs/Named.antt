-- A record's kind and its number: a kind is named by its number, and a number that names none fits no length. Assumes nothing.
use mathlib.Core.Path.{◌≡◌, refl, sym, ap, ◌∙◌}
use mathlib.Core.Bool.{Bool, true, false, cond}
use Prim.Native.Nat.{ℕ}
use native.Mathlib.Omega.{arith}
use lib.Dec.{eqb}
use borrow.Author.Tests.{eqb-true}
use Rattle.std.specs.Prelude.{Result, Ok, Err}
use Rattle.card_records.specs.declared.Fault.{Fault}
use Rattle.card_records.specs.declared.Fault.TheVariants.{BadHead}
use Rattle.card_records.specs.declared.Kind.{Kind}
use Rattle.card_records.specs.declared.Kind.TheVariants.{Input, Constant, Gate, End}
use Rattle.card_records.specs.Bytes.{kind_fits}
use Rattle.card_records.specs.Inner.Named.{kind_number, kind_named}

-- a number that names a kind is that kind's; another one is none, and fits no length
pub data Named (n : ℕ) : Result Kind Fault → Type 0 where
  is_named : (k : Kind) → kind_number k ≡ n → Named n (Ok k)
  not_named : ((len : ℕ) → kind_fits n len ≡ false) → Named n (Err BadHead)

pub named : (n : ℕ) → Named n (kind_named n)
unfolding kind_named kind_fits
named n = go (eqb n 1) refl (eqb n 2) refl (eqb n 3) refl (eqb n 4) refl
  where
    go : (a : Bool) → eqb n 1 ≡ a → (b : Bool) → eqb n 2 ≡ b → (c : Bool) → eqb n 3 ≡ c → (d : Bool) → eqb n 4 ≡ d
        → Named n (cond a (Ok Input) (cond b (Ok Constant) (cond c (Ok Gate) (cond d (Ok End) (Err BadHead)))))
    go true p b q c r d t = is_named Input (sym (eqb-true n 1 p))
    go false p true q c r d t = is_named Constant (sym (eqb-true n 2 q))
    go false p false q true r d t = is_named Gate (sym (eqb-true n 3 r))
    go false p false q false r true t = is_named End (sym (eqb-true n 4 t))
    go false p false q false r false t = not_named (λ len. rw (p, q, r, t))

-- and a kind is named by its number
pub named_number : (k : Kind) → kind_named (kind_number k) ≡ Ok k
unfolding kind_named
named_number Input = refl
named_number Constant = refl
named_number Gate = refl
named_number End = refl

-- what a number that names a kind tells, and one that names none

pub named_is : (n : ℕ) (k : Kind) → kind_named n ≡ Ok k → kind_number k ≡ n
named_is n k e = go (kind_named n) (named n) e
  where
    go : (r : Result Kind Fault) → Named n r → r ≡ Ok k → kind_number k ≡ n
    go r (is_named j q) e = let h : j ≡ k = cc in ap kind_number (sym h) ∙ q
    go r (not_named h) e = let z : ◌≡◌ {A = ℕ} 0 1 = cc in absurd (omega arith)

pub unnamed : (n : ℕ) (f : Fault) → kind_named n ≡ Err f → (f ≡ BadHead) × ((len : ℕ) → kind_fits n len ≡ false)
unnamed n f e = go (kind_named n) (named n) e
  where
    go : (r : Result Kind Fault) → Named n r → r ≡ Err f → (f ≡ BadHead) × ((len : ℕ) → kind_fits n len ≡ false)
    go r (is_named j q) e = let z : ◌≡◌ {A = ℕ} 0 1 = cc in absurd (omega arith)
    go r (not_named h) e = (cc, h)
