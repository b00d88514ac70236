use Prim.Native.Nat.{ℕ}
use Rattle.lists.specs.Listed.{listed}
use Rattle.word.specs.Word.{bit, val}
use Rattle.text.specs.Text.{digit}
use Rattle.text.specs.Inner.Put.{Puts}
use Rattle.sheet_text.proofs.lines.put_values.Given as goal

-- the byte of a value
abbrev pub shown : ℕ → ℕ → ℕ
shown word t = digit (val (bit word t))

abbrev pub invariant-loop-t : goal.invariant-loop-t
invariant-loop-t l = Puts (listed (shown l.word) l.t) l.initial.page l.page
