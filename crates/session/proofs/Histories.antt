-- A pass along the gates' order leaves the rule's histories, from any before values in which each constant has its value. Assumes nothing.
use mathlib.Core.Path.{◌≡◌, refl, sym, ap, ap₂, ◌∙◌}
use mathlib.Core.Bool.{Bool, true, false, cond}
use mathlib.Core.List.{List, map, map-map}
use mathlib.Core.Logic.{◌⊎◌, inl, inr}
use Prim.Native.Nat.{ℕ, zero, suc, ◌<◌}
use native.Mathlib.Omega.{arith}
use native.Mathlib.Decide.{ℕ_discrete, dec_lt}
use lib.Dec.{eqb, lit<}
use lib.ListN.{length, get_or, get_or-eq_default}
use borrow.Author.Tests.{eq-eqb, eqb-true}
use Rattle.lists.specs.Entries.{◌∈◌}
use Rattle.lists.specs.Listed.{listed}
use Rattle.lists.proofs.Bools.{not_both}
use Rattle.lists.proofs.Tests.{map_ext}
use Rattle.lists.proofs.Listed.{listed_at, listed_ext}
use Rattle.word.specs.Word.{bit, word_of, moved_up}
use Rattle.word.proofs.Bits.{bit_none}
use Rattle.word.proofs.Words.{bit_word, is_word, word_ext}
use Rattle.gate.specs.Gate.{gate as gate_fn}
use Rattle.rule.specs.Net.{Net, constant, open_pin, open_value, net_at, pins, is_input, is_source}
use Rattle.rule.specs.Level.{Looped}
use Rattle.rule.specs.Rule.{value}
use Rattle.rule.specs.Run.{run}
use Rattle.rule.specs.Steps.{gate_order}
use Rattle.rule.proofs.Nets.{at_open, at_net, net_open, NetIs, an_input, a_constant, a_gate, net_is, no_input}
use Rattle.rule.proofs.Runs.{run_right}
use Rattle.rule.proofs.Values.{constant_is, input_is, gate_starts, moves}
use Rattle.rule.proofs.GateOrders.{out_order, in_order, order_ready_lem}
use Rattle.card_wiring.specs.Layout.{pins_at, kinds_of, types_of, counts_of, places_of}
use Rattle.card_wiring.specs.Inner.Wires.{Fits}
use Rattle.card_wiring.proofs.Layouts.{gate_fn_lem, pins_laid, type_at}
use Rattle.inputs.specs.Inputs.{is_input_kind, given}
use Rattle.inputs.specs.Inner.Starts.{tops_of}
use Rattle.fields.specs.Inner.Fields.{field_of, field_at, pin_word, passed}
use Rattle.inputs.proofs.Starts.{inputs_put}
use Rattle.card_records.proofs.Fitted.{Fitted}
use Rattle.card.proofs.Reading.{inputs_laid}
use Rattle.session.specs.Good.{histories}
use Rattle.session.proofs.States.{past_zero}

-- the word that is 0 at every time
pub zero_word : 0 ≡ word_of 64 (λ t. false)
zero_word = is_word 64 (λ t. false) 0 (lit< tt) (λ t l. bit_none t)

-- a pass along the gates' order leaves every net's proper word, where each gate's is what it makes of its pins' proper words, and what does not move has its own from the start
pub along_right : (c : List Net) → Fitted c → ¬ Looped c → (fn : ℕ → List ℕ → ℕ) (start word : ℕ → ℕ)
    → ((n : ℕ) → is_source (net_at c n) ≡ false → n < length c → word n ≡ fn n (map word (pins c n))) → ((n : ℕ) → is_source (net_at c n) ≡ true → start n ≡ word n)
    → listed (run eqb (pins_at (counts_of c) (places_of c)) fn start (gate_order c)) 256 ≡ listed word 256
along_right c fit free fn start word meets still =
    ap (λ ps. listed (run eqb ps fn start (gate_order c)) 256) (pins_laid c fit.fits)
    ∙ listed_ext (run eqb (pins c) fn start (gate_order c)) word 256 (λ n b. right n (known n (is_source (net_at c n)) refl))
  where
    known : (n : ℕ) (b : Bool) → is_source (net_at c n) ≡ b → (b ≡ true) ⊎ (n ∈ gate_order c)
    known n true e = inl refl
    known n false e = inr (in_order c free fit.pinned n e)

    right : (n : ℕ) → (is_source (net_at c n) ≡ true) ⊎ (n ∈ gate_order c) → run eqb (pins c) fn start (gate_order c) n ≡ word n
    right n =
        run_right eqb (pins c) eqb-true (λ g. eq-eqb g g refl) fn word (λ g. (is_source (net_at c g) ≡ false) × (g < length c)) (λ g o. meets g o.0 o.1)
        (λ g. is_source (net_at c g)) start (gate_order c) (out_order c) still (order_ready_lem c free fit.pinned) n

-- the rule's histories from before values, and words that the pass starts from: they have the histories of what does not move, and end in the before
-- values of the gates
module _ (c : List Net) (fit : Fitted c) (free : ¬ Looped c) (before new : ℕ → Bool) (start : List ℕ) (long : length start ≡ 256)
    (still : (n : ℕ) → n < 256 → is_source (net_at c n) ≡ true → get_or start n 0 ≡ word_of 64 (value c before new n))
    (ends : (n : ℕ) → n < 256 → is_source (net_at c n) ≡ false → bit (get_or start n 0) 63 ≡ before n) where
  -- a net's history
  abbrev word : ℕ → ℕ
  word n = word_of 64 (value c before new n)

  abbrev fn : ℕ → List ℕ → ℕ
  fn = field_at (tops_of start) (types_of c)

  -- "A gate's word is the function of its pins' words, moved up by one, with the before value in bit 0."
  gate_word : (n : ℕ) → is_source (net_at c n) ≡ false → n < length c → word n ≡ fn n (map word (pins c n))
  unfolding field_of
  gate_word n e l = word_ext 64 (value c before new n) (moved_up (get_or (tops_of start) n false) (λ t. gate_fn (get_or (types_of c) n 0) (map (λ w. bit w t) (map word (pins c n))))) at
    where
      at : (t : ℕ) → t < 64 → value c before new n t ≡ moved_up (get_or (tops_of start) n false) (λ t. gate_fn (get_or (types_of c) n 0) (map (λ w. bit w t) (map word (pins c n)))) t
      at zero b =
          let few = fit.fits.few in
          let here : n < 256 = omega arith in
          gate_starts c before new n e ∙ sym (listed_at (λ n. bit (get_or start n 0) 63) 256 n false here ∙ ends n here e)
      at (suc t) b =
          moves c before new n t
          ∙ gate_fn_lem (net_at c n) (new n) (map (λ p. value c before new p t) (pins c n)) e
          ∙ ap (λ ty. gate_fn ty (map (λ p. value c before new p t) (pins c n))) (sym (type_at c fit.fits n l))
          ∙ ap (gate_fn (get_or (types_of c) n 0)) (map_ext _ (λ p. bit (word p) t) (pins c n) (λ p. sym (bit_word 64 (value c before new p) t (omega arith))) ∙ sym (map-map (λ w. bit w t) word (pins c n)))

  start_right : (n : ℕ) → is_source (net_at c n) ≡ true → pin_word start n ≡ word n
  start_right n e = open_or_not (ℕ_discrete n open_pin)
    where
      net_or_past : ¬ (n ≡ open_pin) → Dec (n < 256) → get_or start n 0 ≡ word n
      net_or_past q (yes l) = still n l e
      net_or_past q (no l) =
          let few = fit.fits.few in
          get_or-eq_default start 0 (omega (arith, long))
          ∙ zero_word ∙ word_ext 64 (λ t. false) (value c before new n) (λ t b. sym (past_zero c before new n t (omega arith) q))

      open_or_not : Dec (n ≡ open_pin) → pin_word start n ≡ word n
      open_or_not (yes q) =
          rw q (at_open (word_of 64 (λ t. open_value)) (λ m. get_or start m 0) ∙ word_ext 64 (λ t. open_value) (value c before new open_pin) (λ t b. sym (constant_is c before new open_pin t open_value (net_open c))))
      open_or_not (no q) = at_net (word_of 64 (λ t. open_value)) (λ m. get_or start m 0) n q ∙ net_or_past q (dec_lt n 256)

  pub pass_histories : passed (tops_of start) (types_of c) (counts_of c) (places_of c) start (gate_order c) ≡ histories c before new
  unfolding passed histories
  pass_histories = along_right c fit free fn (pin_word start) word gate_word start_right

-- Words to start from

module _ (c : List Net) (before new : ℕ → Bool) where
  module _ (fits : Fits c) where
    -- any words, with the inputs' new values put
    module _ (v words : List ℕ) (same : (n : ℕ) → given (kinds_of c) v n ≡ new n) where
      put_at : (n : ℕ) → n < 256 → get_or (inputs_put (kinds_of c) v words) n 0 ≡ cond (is_input (net_at c n)) (word_of 64 (λ t. new n)) (get_or words n 0)
      unfolding inputs_put
      put_at n l =
          listed_at (λ n. cond (is_input_kind (get_or (kinds_of c) n 0)) (word_of 64 (λ t. given (kinds_of c) v n)) (get_or words n 0)) 256 n 0 l
          ∙ ap₂ (λ x b. cond x (word_of 64 (λ t. b)) (get_or words n 0)) (inputs_laid c fits n) (same n)

      pub put_still : ((n : ℕ) (k : Bool) → n < 256 → net_at c n ≡ constant k → get_or words n 0 ≡ word_of 64 (λ t. k)) → (n : ℕ) → n < 256 → is_source (net_at c n) ≡ true
          → get_or (inputs_put (kinds_of c) v words) n 0 ≡ word_of 64 (value c before new n)
      put_still fixed n l e = put_at n l ∙ go (net_is (net_at c n))
        where
          go : NetIs (net_at c n) → cond (is_input (net_at c n)) (word_of 64 (λ t. new n)) (get_or words n 0) ≡ word_of 64 (value c before new n)
          go (an_input q) = rw q (word_ext 64 (λ t. new n) (value c before new n) (λ t b. sym (input_is c before new n t q)))
          go (a_constant k q) = rw q (fixed n k l q ∙ word_ext 64 (λ t. k) (value c before new n) (λ t b. sym (constant_is c before new n t k q)))
          go (a_gate s) = absurd (not_both (is_source (net_at c n)) e s)

      pub put_ends : (n : ℕ) → n < 256 → is_source (net_at c n) ≡ false → bit (get_or (inputs_put (kinds_of c) v words) n 0) 63 ≡ bit (get_or words n 0) 63
      put_ends n l e = ap (λ w. bit w 63) (put_at n l ∙ ap (λ x. cond x (word_of 64 (λ t. new n)) (get_or words n 0)) (no_input (net_at c n) e))
