-- What is asked of a vector: each number exactly when document 01 gives it, in its order. Assumes nothing.
use mathlib.Core.Path.{◌≡◌, refl, sym}
use mathlib.Core.Bool.{Bool, true, false, cond}
use mathlib.Core.List.{List}
use Prim.Native.Nat.{ℕ}
use lib.Dec.{eqb}
use lib.ListN.{length}
use borrow.Author.Tests.{eq-eqb, ne_eqb, eqb-true, eqb-false, lt-ltb, le-ltb, ltb-true, ltb-false}
use Rattle.lists.specs.Entries.{every}
use Rattle.lists.proofs.Tests.{every_yes, every_at, every_no, every_fails}
use Rattle.rule.specs.declared.Refusal.{Refusal}
use Rattle.rule.specs.declared.Refusal.TheVariants.{NotReady, VectorLength, VectorByte}
use Rattle.rule.specs.Answers.{Verdict}
use Rattle.std.specs.Prelude.{Ok, Err}
use Rattle.inputs.specs.Inputs.{byte_fits, vector_fits, vector_judged}
use Rattle.inputs.specs.Allowed.{byte_limit, Vector, VectorGets, gets_12, gets_10, gets_11}

-- what has the length and bytes that fit is a vector
pub fits_vector : (inputs : ℕ) (v : List ℕ) → length v ≡ inputs → every byte_fits v ≡ true → Vector inputs v
fits_vector inputs v l e = record { size = l; bits = λ b m. ltb-true b byte_limit (every_at byte_fits v e b m) }

module _ (ready : Bool) (inputs : ℕ) (v : List ℕ) where
  -- The tests, one after another

  pub not_ready : ready ≡ false → Err NotReady ≡ vector_judged ready inputs v
  unfolding vector_judged
  not_ready e = rw e

  pub bad_length : ready ≡ true → ¬ (length v ≡ inputs) → Err VectorLength ≡ vector_judged ready inputs v
  unfolding vector_judged vector_fits
  bad_length e l = rw (e, ne_eqb (length v) inputs l)

  pub bad_byte : ready ≡ true → length v ≡ inputs → every byte_fits v ≡ false → Err VectorByte ≡ vector_judged ready inputs v
  unfolding vector_judged vector_fits
  bad_byte e l h = rw (e, eq-eqb (length v) inputs l, h)

  pub all_pass : ready ≡ true → length v ≡ inputs → every byte_fits v ≡ true → (Ok tt) ≡ vector_judged ready inputs v
  unfolding vector_judged vector_fits
  all_pass e l h = rw (e, eq-eqb (length v) inputs l, h)

  -- A number that applies is the verdict, and a vector passes

  pub gets_judged : (r : Refusal) → VectorGets ready inputs v r → vector_judged ready inputs v ≡ Err r
  gets_judged r (gets_12 n) = sym (not_ready n)
  gets_judged r (gets_10 y l) = sym (bad_length y l)
  gets_judged r (gets_11 y l b m h) = sym (bad_byte y l (every_no byte_fits v b m (le-ltb b byte_limit h)))

  pub vector_judged_lem : ready ≡ true → Vector inputs v → vector_judged ready inputs v ≡ (Ok tt)
  vector_judged_lem e w = sym (all_pass e w.size (every_yes byte_fits v (λ b m. lt-ltb b byte_limit (w.bits b m))))

  -- A verdict with its reason

  pub data Judging : Verdict → Type 0 where
    refused : (r : Refusal) → VectorGets ready inputs v r → Judging (Err r)
    passed : ready ≡ true → Vector inputs v → Judging (Ok tt)

  pub judging : Judging (vector_judged ready inputs v)
  unfolding vector_judged vector_fits
  judging = go ready refl (eqb (length v) inputs) refl (every byte_fits v) refl
    where
      go : (x : Bool) → ready ≡ x → (a : Bool) → eqb (length v) inputs ≡ a → (b : Bool) → every byte_fits v ≡ b
          → Judging (cond x (cond a (cond b (Ok tt) (Err VectorByte)) (Err VectorLength)) (Err NotReady))
      go false o a p b q = refused NotReady (gets_12 o)
      go true o false p b q = refused VectorLength (gets_10 o (eqb-false (length v) inputs p))
      go true o true p false q =
          let w = every_fails byte_fits v q in
          refused VectorByte (gets_11 o (eqb-true (length v) inputs p) w.0 w.1 (ltb-false w.0 byte_limit w.2))
      go true o true p true q = passed o (fits_vector inputs v (eqb-true (length v) inputs p) q)

  -- what passes is ready, and a vector
  pub judged_vector : vector_judged ready inputs v ≡ (Ok tt) → (ready ≡ true) × Vector inputs v
  judged_vector e = go (vector_judged ready inputs v) judging e
    where
      go : (x : Verdict) → Judging x → x ≡ (Ok tt) → (ready ≡ true) × Vector inputs v
      go x (refused r g) e = let z : ◌≡◌ {A = ℕ} 0 1 = cc in absurd (omega native.Mathlib.Omega.arith)
      go x (passed o w) e = (o, w)
