-- Words that hold variables: what they hold, the words of some variables, and one step on words. Assumes nothing.
use mathlib.Core.Path.{◌≡◌, refl, sym, ap, ◌∙◌}
use mathlib.Core.Bool.{Bool, false, cond}
use mathlib.Core.List.{List, map}
use Prim.Native.Nat.{ℕ, ◌^◌, ◌<◌}
use native.Mathlib.Omega.{arith}
use lib.Dec.{eqb, lit<}
use lib.ListN.{length, get_or, set}
use borrow.Author.Tests.{eq-eqb, ne_eqb}
use Rattle.lists.proofs.Listed.{length_listed, listed_all, is_listed, listed_set}
use Rattle.word.specs.Word.{bit, word_of}
use Rattle.word.proofs.Words.{word_lt, is_word}
use Rattle.rule.specs.Net.{open_value}
use Rattle.rule.specs.Run.{made, step}
use Rattle.rule.specs.Steps.{Step, same_step}
use Rattle.rule.proofs.Nets.{at_net, not_open}
use Rattle.rule.proofs.Runs.{made_is}
use Rattle.rule.proofs.StepRuns.{same_one, same_self}
use Rattle.inputs.specs.Inner.Starts.{byte_word}
use Rattle.inputs.proofs.Starts.{length_put, put_low}
use Rattle.step_vars.specs.Variables.{held_in, vars_of, words_of, reads_in, fn_in, step_in}
use Rattle.step_vars.specs.Inner.Variables.{Words, start_in}

-- a net's variables are its word's bits
pub var_net : (words : List ℕ) (n t : ℕ) → n < 256 → vars_of words (record { net = n; time = t }) ≡ bit (get_or words n 0) t
unfolding held_in
var_net words n t l = at_net open_value (λ m. bit (get_or words m 0) t) n (not_open n (omega arith))

-- the name of a variable of another net, and of the same net
other_net : (m n t u : ℕ) → ¬ (m ≡ n) → same_step (record { net = m; time = t }) (record { net = n; time = u }) ≡ false
other_net m n t u h = rw (ne_eqb m n h)

same_net : (n t u : ℕ) → same_step (record { net = n; time = t }) (record { net = n; time = u }) ≡ eqb t u
same_net n t u = rw (eq-eqb n n refl)

-- One step, on words: the gate's value goes into one bit of one word
module _ (types counts places sets words : List ℕ) (g t : ℕ) where
  abbrev k : Step
  k = record { net = g; time = t }

  abbrev value : Bool
  value = made same_step (reads_in counts places sets) (fn_in types) (vars_of words) k

  value_is : value ≡ fn_in types k (map (vars_of words) (reads_in counts places sets k))
  value_is = made_is same_step (reads_in counts places sets) same_one same_self (fn_in types) (vars_of words) k

  abbrev new : Step → Bool
  new = step same_step (reads_in counts places sets) (fn_in types) (vars_of words) k

  pub step_made : (r : ℕ) (b : Bool) → g < 256 → Words words
      → b ≡ fn_in types k (map (vars_of words) (reads_in counts places sets k)) → r < 2 ^ 64 → ((u : ℕ) → u < 64 → bit r u ≡ cond (eqb u t) b (bit (get_or words g 0) u))
      → set words g r ≡ step_in types counts places sets words k
  unfolding step_in words_of step
  step_made r b l are gives small put =
      ap (λ xs. set xs g r) (is_listed (λ n. get_or words n 0) 256 0 words are.size (λ i h. refl))
      ∙ listed_set (λ n. get_or words n 0) (λ n. word_of 64 (λ u. new (record { net = n; time = u }))) 256 g r l own other
    where
      own : word_of 64 (λ u. new (record { net = g; time = u })) ≡ r
      own =
          sym (is_word 64 (λ u. new (record { net = g; time = u })) r small
          (λ u h. put u h ∙ ap (λ x. cond (eqb u t) x (bit (get_or words g 0) u)) (gives ∙ sym value_is)
          ∙ ap (cond (eqb u t) value) (sym (var_net words g u l))
          ∙ ap (λ q. cond q value (vars_of words (record { net = g; time = u }))) (sym (same_net g u t))))

      other : (j : ℕ) → j < 256 → ¬ (j ≡ g) → word_of 64 (λ u. new (record { net = j; time = u })) ≡ get_or words j 0
      other j h q =
          sym (is_word 64 (λ u. new (record { net = j; time = u })) (get_or words j 0) (are.low j)
          (λ u b. sym (var_net words j u h) ∙ ap (λ e. cond e value (vars_of words (record { net = j; time = u }))) (sym (other_net j g u t q))))

-- where the variables start there are 256 words
pub start_words : (before : List Bool) (feeds v : List ℕ) → Words (start_in before feeds v)
unfolding start_in
start_words before feeds v = record {
  size = length_put feeds (byte_word v) (length v) _ ∙ length_listed _ 256;
  low = put_low feeds (byte_word v) (2 ^ 64) (λ j. word_lt 64 _) _ (λ n. listed_all (λ w. w < 2 ^ 64) _ 256 n 0 (word_lt 64 _) (lit< tt)) (length v);
}

-- what a step leaves is 256 words again
pub step_words : (types counts places sets words : List ℕ) (k : Step) → Words (step_in types counts places sets words k)
unfolding step_in words_of
step_words types counts places sets words k = record {
  size = length_listed _ 256;
  low = λ n. listed_all (λ w. w < 2 ^ 64) _ 256 n 0 (word_lt 64 _) (lit< tt);
}
