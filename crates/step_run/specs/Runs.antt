-- Steps one after another. Assumes nothing.
use Rattle.std.specs.Prelude.{List, [], ◌∷◌, ℕ, ◌+◌}
use Rattle.rule.specs.Steps.{Step}
use Rattle.step_vars.specs.Variables.{step_in}

-- steps one after another, with the count: "from count 0, each adding one"
pub record Ran : Type 0 where
  pub words : List ℕ
  pub count : ℕ

abbrev pub ran_from : List ℕ → List ℕ → List ℕ → List ℕ → Ran → List Step → Ran
ran_from types counts places sets r [] = r
ran_from types counts places sets r (k ∷ ks) =
    ran_from types counts places sets (record { words = step_in types counts places sets r.words k; count = r.count + 1 }) ks

unfoldable pub ran : List ℕ → List ℕ → List ℕ → List ℕ → List ℕ → List Step → Ran
ran types counts places sets words ks = ran_from types counts places sets (record { words = words; count = 0 }) ks
