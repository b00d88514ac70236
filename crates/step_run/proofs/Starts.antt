-- Where a vector starts in a rested session: the variables ahead of all steps hold the rule's values at time 0. Assumes nothing.
use mathlib.Core.Path.{◌≡◌, sym, ap, ◌∙◌}
use mathlib.Core.Bool.{Bool, true, cond}
use mathlib.Core.List.{List}
use Prim.Native.Nat.{ℕ, ◌<◌}
use native.Mathlib.Omega.{arith}
use native.Mathlib.Decide.{ℕ_discrete, dec_lt}
use lib.Dec.{lit<}
use lib.ListN.{get_or}
use borrow.Author.Tests.{eqb-true}
use Rattle.lists.proofs.Listed.{listed_at, listed_past}
use Rattle.word.specs.Word.{bit, word_of}
use Rattle.word.proofs.Bits.{bit_none}
use Rattle.word.proofs.Words.{bit_word}
use Rattle.rule.specs.Net.{Net, open_pin, open_value, net_at, is_input}
use Rattle.rule.specs.Rule.{value}
use Rattle.rule.specs.Steps.{Step}
use Rattle.rule.proofs.Nets.{net_open, NetIs, an_input, a_constant, a_gate, net_is, no_input}
use Rattle.rule.proofs.Values.{constant_is, input_is, gate_starts}
use Rattle.rule.proofs.StepRuns.{ahead}
use Rattle.inputs.specs.Inputs.{is_input_kind}
use Rattle.card.specs.declared.Session.{Session}
use Rattle.card.specs.Session.{card_of}
use Rattle.card.specs.Held.{HasCard}
use Rattle.card.proofs.Reading.{inputs_laid}
use Rattle.card.proofs.Kept.{kinds_are, card_fits}
use Rattle.session.specs.Good.{Rested}
use Rattle.session.specs.Moves.{ends}
use Rattle.session.proofs.States.{past_zero}
use Rattle.session.proofs.Moving.{constant_ends}
use Rattle.step_vars.specs.Variables.{vars_of}
use Rattle.step_vars.proofs.Holding.{held_net, held_open}
use Rattle.step_run.specs.Vector.{start_vars}

module _ (s : Session) (h : HasCard s) (r : Rested s) where
  abbrev c : List Net
  c = card_of s

  module _ (new : ℕ → Bool) where
    -- a net's value at time 0 in terms of its kind
    kind_first : (n : ℕ) → n < 256 → cond (is_input_kind (get_or s.kinds n 0)) (new n) (ends s n) ≡ value c (ends s) new n 0
    kind_first n l =
        ap (λ xs. cond (is_input_kind (get_or xs n 0)) (new n) (ends s n)) (kinds_are s h)
        ∙ ap (λ b. cond b (new n) (ends s n)) (inputs_laid c (card_fits s h).fits n) ∙ go (net_is (net_at c n))
      where
        go : NetIs (net_at c n) → cond (is_input (net_at c n)) (new n) (ends s n) ≡ value c (ends s) new n 0
        go (an_input e) = rw e (sym (input_is c (ends s) new n 0 e))
        go (a_constant k e) = rw e (constant_ends s h r n k l e ∙ sym (constant_is c (ends s) new n 0 k e))
        go (a_gate e) = rw (no_input (net_at c n) e) (sym (gate_starts c (ends s) new n e))

    start_bit : (n t : ℕ) → n < 256 → t < 64 → bit (get_or (start_vars s new) n 0) t ≡ value c (ends s) new n 0
    unfolding start_vars
    start_bit n t l b =
        ap (λ w. bit w t) (listed_at (λ m. word_of 64 (λ u. cond (is_input_kind (get_or s.kinds m 0)) (new m) (ends s m))) 256 n 0 l)
        ∙ bit_word 64 (λ u. cond (is_input_kind (get_or s.kinds n 0)) (new n) (ends s n)) t b
        ∙ kind_first n l

    start_at : (n : ℕ) → vars_of (start_vars s new) (record { net = n; time = 0 }) ≡ value c (ends s) new n 0
    start_at n = go (ℕ_discrete n open_pin) (dec_lt n 256)
      where
        j : Step
        j = record { net = n; time = 0 }

        words : List ℕ
        words = start_vars s new

        past : ¬ (n < 256) → get_or (start_vars s new) n 0 ≡ 0
        past b = unfold start_vars in listed_past _ 256 n 0 (omega arith)

        go : Dec (n ≡ open_pin) → Dec (n < 256) → vars_of words j ≡ value c (ends s) new n 0
        go (yes e) b = held_open open_value words j e ∙ sym (constant_is c (ends s) new n 0 open_value (ap (net_at c) e ∙ net_open c))
        go (no e) (yes b) = held_net open_value words j e ∙ start_bit n 0 b (lit< tt)
        go (no e) (no b) =
            held_net open_value words j e ∙ ap (λ w. bit w 0) (past b) ∙ bit_none 0
            ∙ sym (past_zero c (ends s) new n 0 (omega (arith, (card_fits s h).fits.few)) e)

    -- "The variable for it takes the before value ahead of all steps."
    pub start_ahead : (k : Step) → ahead k ≡ true → vars_of (start_vars s new) k ≡ value c (ends s) new k.net k.time
    start_ahead k e =
        let z = eqb-true k.time 0 e in
        ap (λ t. vars_of (start_vars s new) (record { net = k.net; time = t })) z ∙ start_at k.net ∙ ap (value c (ends s) new k.net) (sym z)
