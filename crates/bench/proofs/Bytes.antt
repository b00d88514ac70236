-- The byte of a step. Assumes nothing.
use mathlib.Core.Path.{◌≡◌, ap₂, ◌∙◌}
use mathlib.Core.Bool.{Bool, false, cond}
use mathlib.Core.List.{List}
use Prim.Native.Nat.{ℕ}
use lib.ListN.{get_or}
use Rattle.word.specs.Word.{bit, val}
use Rattle.bench.specs.Bench.{not_done}
use Rattle.bench.specs.Inner.Taken.{byte_in}

-- the byte of step number e, from its net and its time
pub byte_at : (vars nets times : List ℕ) (done : List Bool) (e g t r : ℕ) → g ≡ get_or nets e 0 → t ≡ get_or times e 0 → r ≡ cond (get_or done e false) (val (bit (get_or vars g 0) t)) not_done
    → r ≡ byte_in vars nets times done e
byte_at vars nets times done e g t r p q h = h ∙ ap₂ (λ n u. cond (get_or done e false) (val (bit (get_or vars n 0) u)) not_done) p q
