-- What words hold for a variable of a net, and for one of an open pin. Assumes nothing.
use mathlib.Core.Path.{◌≡◌, ap, ◌∙◌}
use mathlib.Core.Bool.{Bool}
use mathlib.Core.List.{List}
use Prim.Native.Nat.{ℕ}
use lib.ListN.{get_or}
use Rattle.word.specs.Word.{bit}
use Rattle.rule.specs.Net.{open_pin, at_pin}
use Rattle.rule.specs.Steps.{Step}
use Rattle.rule.proofs.Nets.{at_open, at_net}
use Rattle.step_vars.specs.Variables.{held_in}

-- for a net the bit of its word, and for an open pin what is given for it
pub held_net : (loose : Bool) (words : List ℕ) (j : Step) → ¬ (j.net ≡ open_pin) → held_in loose words j ≡ bit (get_or words j.net 0) j.time
unfolding held_in
held_net loose words j e = at_net loose (λ n. bit (get_or words n 0) j.time) j.net e

pub held_open : (loose : Bool) (words : List ℕ) (j : Step) → j.net ≡ open_pin → held_in loose words j ≡ loose
unfolding held_in
held_open loose words j e = ap (at_pin loose (λ n. bit (get_or words n 0) j.time)) e ∙ at_open loose (λ n. bit (get_or words n 0) j.time)
