-- Rest and a vector: each number exactly when document 01 gives it, in its order; a refusal leaves the session; and two results that a
-- contract allows are equal. Assumes nothing.
use mathlib.Core.Path.{◌≡◌, refl, sym, ap, subst}
use mathlib.Core.Bool.{Bool, true}
use mathlib.Core.List.{List}
use Prim.Native.Nat.{ℕ}
use native.Mathlib.Omega.{arith}
use Rattle.rule.specs.declared.Refusal.{Refusal}
use Rattle.std.specs.Prelude.{Ok, Err}
use Rattle.rule.specs.Answers.{Verdict}
use Rattle.inputs.specs.Inputs.{given, vector_judged}
use Rattle.inputs.specs.Allowed.{Vector, VectorGets}
use Rattle.inputs.proofs.Verdicts.{Judging, refused, passed, judging, gets_judged, vector_judged_lem}
use Rattle.card.specs.declared.Session.{Session}
use Rattle.session.specs.Moved.{Moved}
use Rattle.session.specs.Moves.{refused_move, moving, moved_by, vector_of, rested_by, rest_of}

-- An operation that takes a vector, for any test of readiness, any count and any next session: it is refused exactly where a number applies, and then
-- nothing is moved

module _ (ready : Bool) (s : Session) (v : List ℕ) (count : ℕ) (next : Session) where
  abbrev tested : Moved
  tested = moving s (vector_judged ready s.inputs v) count next

  pub gets_refused : (r : Refusal) → VectorGets ready s.inputs v r → tested ≡ refused_move s r
  gets_refused r g = ap (λ x. moving s x count next) (gets_judged ready s.inputs v r g)

  pub fits_taken : ready ≡ true → Vector s.inputs v → tested ≡ record { answer = Ok count; session = next }
  fits_taken e w = ap (λ x. moving s x count next) (vector_judged_lem ready s.inputs v e w)

  -- a result with its reason
  pub data Ruling : Moved → Type 0 where
    refuses : (r : Refusal) → VectorGets ready s.inputs v r → Ruling (refused_move s r)
    takes : ready ≡ true → Vector s.inputs v → Ruling (record { answer = Ok count; session = next })

  pub ruled : Ruling tested
  ruled = go (vector_judged ready s.inputs v) (judging ready s.inputs v)
    where
      go : (x : Verdict) → Judging ready s.inputs v x → Ruling (moving s x count next)
      go x (refused r g) = refuses r g
      go x (passed e w) = takes e w

  pub refused_gets : (r : Refusal) → tested.answer ≡ Err r → VectorGets ready s.inputs v r × (tested.session ≡ s)
  refused_gets r e = go tested ruled e
    where
      go : (x : Moved) → Ruling x → x.answer ≡ Err r → VectorGets ready s.inputs v r × (x.session ≡ s)
      go x (refuses q g) e = let h : q ≡ r = cc in (subst (VectorGets ready s.inputs v) h g, refl)
      go x (takes l w) e = let z : ◌≡◌ {A = ℕ} 0 1 = cc in absurd (omega arith)

  pub taken_fits : (k : ℕ) → tested.answer ≡ Ok k → (ready ≡ true) × Vector s.inputs v × (k ≡ count)
  taken_fits k e = go tested ruled e
    where
      go : (x : Moved) → Ruling x → x.answer ≡ Ok k → (ready ≡ true) × Vector s.inputs v × (k ≡ count)
      go x (refuses q g) e = let z : ◌≡◌ {A = ℕ} 0 1 = cc in absurd (omega arith)
      go x (takes l w) e = let h : count ≡ k = cc in (l, w, sym h)

-- Rest: 12 (card only), 10, 11

module _ (s : Session) (v : List ℕ) where
  pub rest_ruled : Ruling s.loaded s v 0 (rested_by s (given s.kinds v)) (rest_of s v)
  unfolding rest_of
  rest_ruled = ruled s.loaded s v 0 (rested_by s (given s.kinds v))

  pub rest_refuses : (r : Refusal) → VectorGets s.loaded s.inputs v r → rest_of s v ≡ refused_move s r
  unfolding rest_of
  rest_refuses r g = gets_refused s.loaded s v 0 (rested_by s (given s.kinds v)) r g

  pub rest_refused : (r : Refusal) → (rest_of s v).answer ≡ Err r → VectorGets s.loaded s.inputs v r × ((rest_of s v).session ≡ s)
  unfolding rest_of
  rest_refused r e = refused_gets s.loaded s v 0 (rested_by s (given s.kinds v)) r e

  pub rest_takes : s.loaded ≡ true → Vector s.inputs v → rest_of s v ≡ record { answer = Ok 0; session = rested_by s (given s.kinds v) }
  unfolding rest_of
  rest_takes e w = fits_taken s.loaded s v 0 (rested_by s (given s.kinds v)) e w

  pub rest_taken : (k : ℕ) → (rest_of s v).answer ≡ Ok k → (s.loaded ≡ true) × Vector s.inputs v × (k ≡ 0)
  unfolding rest_of
  rest_taken k e = taken_fits s.loaded s v 0 (rested_by s (given s.kinds v)) k e

  -- Vector: 12, 10, 11

  pub vector_ruled : Ruling s.rested s v 0 (moved_by s (given s.kinds v)) (vector_of s v)
  unfolding vector_of
  vector_ruled = ruled s.rested s v 0 (moved_by s (given s.kinds v))

  pub vector_refuses : (r : Refusal) → VectorGets s.rested s.inputs v r → vector_of s v ≡ refused_move s r
  unfolding vector_of
  vector_refuses r g = gets_refused s.rested s v 0 (moved_by s (given s.kinds v)) r g

  pub vector_refused : (r : Refusal) → (vector_of s v).answer ≡ Err r → VectorGets s.rested s.inputs v r × ((vector_of s v).session ≡ s)
  unfolding vector_of
  vector_refused r e = refused_gets s.rested s v 0 (moved_by s (given s.kinds v)) r e

  pub vector_takes : s.rested ≡ true → Vector s.inputs v → vector_of s v ≡ record { answer = Ok 0; session = moved_by s (given s.kinds v) }
  unfolding vector_of
  vector_takes e w = fits_taken s.rested s v 0 (moved_by s (given s.kinds v)) e w

  pub vector_taken : (k : ℕ) → (vector_of s v).answer ≡ Ok k → (s.rested ≡ true) × Vector s.inputs v × (k ≡ 0)
  unfolding vector_of
  vector_taken k e = taken_fits s.rested s v 0 (moved_by s (given s.kinds v)) k e
