-- What an operation that takes a vector answers, from the verdict on the vector. Assumes nothing.
use mathlib.Core.Path.{◌≡◌, sym, ap, ◌∙◌}
use mathlib.Core.List.{List}
use Prim.Native.Nat.{ℕ}
use Rattle.rule.specs.declared.Refusal.{Refusal}
use Rattle.std.specs.Prelude.{Ok, Err}
use Rattle.rule.specs.Answers.{Verdict}
use Rattle.inputs.specs.Inputs.{given, vector_judged}
use Rattle.card.specs.declared.Session.{Session}
use Rattle.session.specs.Moves.{refused_move, moving, moved_by, vector_of, rested_by, rest_of}

-- for any count and any next session
module _ (s : Session) (count : ℕ) (next : Session) (x verdict : Verdict) (e : x ≡ verdict) where
  pub moving_refused : (why : Refusal) → x ≡ Err why → refused_move s why ≡ moving s verdict count next
  moving_refused why q = ap (λ y. moving s y count next) (sym q ∙ e)

  pub moving_done : (n : Session) → n ≡ next → x ≡ (Ok tt) → record { answer = Ok count; session = n } ≡ moving s verdict count next
  moving_done n h q = ap (moving s (Ok tt) count) h ∙ ap (λ y. moving s y count next) (sym q ∙ e)

module _ (s : Session) (v : List ℕ) (x : Verdict) where
  pub rest_refused_by : x ≡ vector_judged s.loaded s.inputs v → (why : Refusal) → x ≡ Err why → refused_move s why ≡ rest_of s v
  unfolding rest_of
  rest_refused_by = moving_refused s 0 (rested_by s (given s.kinds v)) x _

  pub rest_done : x ≡ vector_judged s.loaded s.inputs v → (n : Session) → n ≡ rested_by s (given s.kinds v) → x ≡ (Ok tt)
      → record { answer = Ok 0; session = n } ≡ rest_of s v
  unfolding rest_of
  rest_done = moving_done s 0 (rested_by s (given s.kinds v)) x _

  pub vector_refused_by : x ≡ vector_judged s.rested s.inputs v → (why : Refusal) → x ≡ Err why → refused_move s why ≡ vector_of s v
  unfolding vector_of
  vector_refused_by = moving_refused s 0 (moved_by s (given s.kinds v)) x _

  pub vector_done : x ≡ vector_judged s.rested s.inputs v → (n : Session) → n ≡ moved_by s (given s.kinds v) → x ≡ (Ok tt)
      → record { answer = Ok 0; session = n } ≡ vector_of s v
  unfolding vector_of
  vector_done = moving_done s 0 (moved_by s (given s.kinds v)) x _
