-- What demand 3 says of an order, about the code's run. Assumes nothing.
use Rattle.std.specs.Prelude.{◌≡◌, Bool, List, ◌∷◌, ◌++◌, ℕ, length, get_or, take}
use Rattle.lists.specs.Entries.{◌∈◌}
use Rattle.word.specs.Word.{bit}
use Rattle.rule.specs.Rule.{value}
use Rattle.rule.specs.Run.{made}
use Rattle.rule.specs.Steps.{Step, same_step}
use Rattle.card.specs.declared.Session.{Session}
use Rattle.card.specs.Session.{card_of}
use Rattle.session.specs.Moves.{ends, moved_by}
use Rattle.step_vars.specs.Variables.{vars_of, reads_in, fn_in}
use Rattle.step_run.specs.Vector.{ran_along, ran_session}

-- "each step gives its proper value when it is reached, and the whole run ends with the rule's history and state"; also after the first m steps, and the count
pub record AnyOrder (s : Session) (new : ℕ → Bool) (ks : List Step) : Type 0 where
  pub each_gives : (xs : List Step) (k : Step) (ys : List Step) → ks ≡ xs ++ k ∷ ys
      → made same_step (reads_in s.counts s.places s.sets) (fn_in s.types) (vars_of (ran_along s new xs).words) k
      ≡ value (card_of s) (ends s) new k.net k.time
  pub first_have : (m : ℕ) (k : Step) → k ∈ take m ks
      → bit (get_or (ran_along s new (take m ks)).words k.net 0) k.time ≡ value (card_of s) (ends s) new k.net k.time
  pub whole_leaves : ran_session s (ran_along s new ks) ≡ moved_by s new
  pub counts : (ran_along s new ks).count ≡ length ks
