-- The variables of the steps, kept as words: variable (n, t) is bit t of net n's word. One step, for whatever the variables hold, and the
-- histories that the variables mean. Assumes nothing.
use Rattle.std.specs.Prelude.{Bool, List, map, ℕ, ◌+◌, get_or}
use Rattle.lists.specs.Listed.{listed}
use Rattle.word.specs.Word.{bit, word_of}
use Rattle.word.specs.Times.{greatest, no_time, zero_in}
use Rattle.gate.specs.Gate.{gate as gate_fn}
use Rattle.rule.specs.Net.{open_value, at_pin}
use Rattle.rule.specs.Run.{step}
use Rattle.rule.specs.Steps.{Step, same_step}
use Rattle.card_wiring.specs.Layout.{pins_at}

-- what the words hold for a variable; for one of an open pin, which has no word, it is `loose`
unfoldable pub held_in : Bool → List ℕ → Step → Bool
held_in loose words k = at_pin loose (λ n. bit (get_or words n 0) k.time) k.net

-- the variables that the words hold; those of an open pin have its value
abbrev pub vars_of : List ℕ → Step → Bool
vars_of words = held_in open_value words

-- and the words that hold some variables
unfoldable pub words_of : (Step → Bool) → List ℕ
words_of s = listed (λ n. word_of 64 (λ t. s (record { net = n; time = t }))) 256

-- "It reads, for each pin, the variable of the pin's largest element strictly below the step's time." An open pin has {0}.
unfoldable pub read_in : List ℕ → ℕ → ℕ → Step
read_in sets t p = record { net = p; time = greatest (zero_in (bit (at_pin 1 (λ n. get_or sets n 0) p))) t no_time }

abbrev pub reads_in : List ℕ → List ℕ → List ℕ → Step → List Step
reads_in counts places sets k = map (read_in sets k.time) (pins_at counts places k.net)

abbrev pub fn_in : List ℕ → Step → List Bool → Bool
fn_in types k vs = gate_fn (get_or types k.net 0) vs

-- "One step is a function with a contract of its own: whatever values the variables hold, it puts its gate's function of those it reads into
-- its own variable and leaves the others."
unfoldable pub step_in : List ℕ → List ℕ → List ℕ → List ℕ → List ℕ → Step → List ℕ
step_in types counts places sets words k = words_of (step same_step (reads_in counts places sets) (fn_in types) (vars_of words) k)

-- a net's history, read from its variables: at each time the variable of the largest element not above it
unfoldable pub history_word : ℕ → ℕ → ℕ
history_word set vars = word_of 64 (λ t. bit vars (greatest (zero_in (bit set)) (t + 1) no_time))

abbrev pub history_from : List ℕ → List ℕ → ℕ → ℕ
history_from sets words n = history_word (get_or sets n 0) (get_or words n 0)

unfoldable pub histories_from : List ℕ → List ℕ → List ℕ
histories_from sets words = listed (history_from sets words) 256
