-- Inner: cited by contracts between functions alone, and by laws. The step list from stored sets and order, and that it stands in two arrays. It is the
-- card's: `list_held` (step_list/proofs/Cards.antt). Assumes nothing.
use Rattle.std.specs.Prelude.{◌≡◌, List, [], ◌∷◌, ◌++◌, ℕ, length, get_or}
use Rattle.lists.specs.Entries.{each, when, from}
use Rattle.lists.specs.Listed.{listed}
use Rattle.lists.specs.Filled.{filled}
use Rattle.word.specs.Word.{bit}
use Rattle.rule.specs.Steps.{Step, step_at}

-- the step of net g at time t, where the word of its PC-set has t; and its steps by time, 1 to d
abbrev pub time_in : ℕ → ℕ → ℕ → List Step
time_in set g t = when (bit set t) (record { net = g; time = t } ∷ [])

unfoldable pub times_in : ℕ → ℕ → ℕ → List Step
times_in set g d = each (time_in set g) (from 1 d)

-- the steps of some gates, gate by gate, then by time
unfoldable pub steps_in : List ℕ → List ℕ → List Step
steps_in sets gates = each (λ g. times_in (get_or sets g 0) g 63) gates

-- the first gates of an order
abbrev pub gates_in : List ℕ → ℕ → List ℕ
gates_in order gates = listed (λ i. get_or order i 0) gates

-- n steps stand at the front of two arrays, which held something before
pub record Holds (ks : List Step) (nets₀ times₀ nets times : List ℕ) (n : ℕ) : Type 0 where
  pub size : n ≡ length ks
  pub nets_are : nets ≡ filled (λ e. (step_at ks e).net) (length ks) nets₀
  pub times_are : times ≡ filled (λ e. (step_at ks e).time) (length ks) times₀

-- whatever steps stand at the front of two arrays of 4,096 places, up to place `at`, some steps more stand behind them afterwards, up to `end`
abbrev pub Adds : List ℕ → List ℕ → ℕ → List Step → List ℕ → List ℕ → ℕ → Type 0
Adds nets times at more nets' times' end =
    (ks : List Step) (nets₀ times₀ : List ℕ) → length nets₀ ≡ 4096 → length times₀ ≡ 4096
    → Holds ks nets₀ times₀ nets times at → Holds (ks ++ more) nets₀ times₀ nets' times' end

-- steps that two arrays name, a net and a time each: number e, and the first n
abbrev pub numbered_step : List ℕ → List ℕ → ℕ → Step
numbered_step nets times e = record { net = get_or nets e 0; time = get_or times e 0 }

abbrev pub steps_named : List ℕ → List ℕ → ℕ → List Step
steps_named nets times n = listed (numbered_step nets times) n
