-- A vector: "one byte an input", 0 or 1. Assumes nothing.
use Rattle.std.specs.Prelude.{Bool, false, cond, List, ℕ, zero, suc, eqb, ltb, length, get_or, set, replicate}
use Rattle.lists.specs.Entries.{every}
use Rattle.word.specs.Word.{is_one}
use Rattle.word.specs.Times.{count}
use Rattle.rule.specs.declared.Refusal.TheVariants.{NotReady, VectorLength, VectorByte}
use Rattle.rule.specs.Answers.{Verdict}
use Rattle.std.specs.Prelude.{Ok, Err}
use Rattle.inputs.specs.Allowed.{byte_limit}

abbrev pub is_input_kind : ℕ → Bool
is_input_kind kind = eqb kind 1

-- how many inputs stand ahead of net n: the place of its byte in a vector
unfoldable pub rank : List ℕ → ℕ → ℕ
rank kinds n = count (λ m. is_input_kind (get_or kinds m 0)) n

-- the inputs ahead of net n, in their order, at the front of 256 places; the places after them hold 0
unfoldable pub input_nets : List ℕ → ℕ → List ℕ
input_nets kinds zero = replicate 256 0
input_nets kinds (suc n) = cond (is_input_kind (get_or kinds n 0)) (set (input_nets kinds n) (rank kinds n) n) (input_nets kinds n)

-- the value that a vector gives net n; only inputs are given any
unfoldable pub given : List ℕ → List ℕ → ℕ → Bool
given kinds v n = cond (is_input_kind (get_or kinds n 0)) (is_one (get_or v (rank kinds n) 0)) false

-- a vector byte is 0 or 1
abbrev pub byte_fits : ℕ → Bool
byte_fits b = ltb b byte_limit

-- 10: "vector not one byte an input"; 11: "a vector byte not 0 or 1"
unfoldable pub vector_fits : ℕ → List ℕ → Verdict
vector_fits inputs v = cond (eqb (length v) inputs) (cond (every byte_fits v) (Ok tt) (Err VectorByte)) (Err VectorLength)

-- "Rest: 12 (card only), 10, 11. Vector by either engine: 12, 10, 11." `ready`: there is a card; for a vector, it is rested
unfoldable pub vector_judged : Bool → ℕ → List ℕ → Verdict
vector_judged ready inputs v = cond ready (vector_fits inputs v) (Err NotReady)
