-- Fields along an order of the gates: a gate's word of its pins' words, and one gate more. Assumes nothing.
use mathlib.Core.Path.{◌≡◌, refl, sym, ap, ◌∙◌}
use mathlib.Core.Bool.{Bool, false}
use mathlib.Core.List.{List, map, map-map}
use Prim.Native.Nat.{ℕ, zero, suc, ◌+◌, ◌^◌, ◌≤◌, ◌<◌}
use native.Mathlib.Omega.{arith}
use lib.Dec.{eqb}
use lib.ListN.{length, get_or, set}
use borrow.Author.Tests.{eq-eqb, ne_eqb, eqb-true}
use Rattle.lists.specs.Listed.{listed}
use Rattle.lists.proofs.Listed.{listed_none, listed_at, out_listed, is_listed}
use Rattle.word.specs.Word.{bit, differ, word_of, moved_up}
use Rattle.word.proofs.Words.{is_word}
use Rattle.gate.specs.Gate.{inverts, gate as gate_fn}
use Rattle.gate.specs.Inner.Pins.{by_pins}
use Rattle.rule.specs.Net.{open_value}
use Rattle.rule.specs.Run.{run}
use Rattle.rule.proofs.Nets.{at_open, at_net, not_open}
use Rattle.rule.proofs.Runs.{run_none, run_leaves_others}
use Rattle.card_wiring.specs.Layout.{pins_at}
use Rattle.card_wiring.specs.Inner.Wires.{Fitting}
use Rattle.card_wiring.proofs.Gathered.{gather_gate}
use Rattle.card_wiring.proofs.Passes.{pass_more}
use Rattle.inputs.specs.Inner.Starts.{tops_of}
use Rattle.fields.specs.Inner.Fields.{field_of, field_at, pin_word, passed}

-- what pin p reads at time t
abbrev pub pin_bit : List ℕ → ℕ → ℕ → Bool
pin_bit words t p = bit (pin_word words p) t

-- what a gate gives of what its pins come to, moved up by one, with the before value in bit 0, is its field
pub field_made : (words counts places : List ℕ) (g : ℕ) (low i : Bool) (ty all r : ℕ) → (ty < 2 → get_or counts g 0 ≡ 1) → i ≡ inverts ty
    → ((t : ℕ) → bit all t ≡ by_pins ty (map (pin_bit words t) (pins_at counts places g)))
    → r < 2 ^ 64 → ((t : ℕ) → t < 64 → bit r t ≡ moved_up low (λ u. differ (bit all u) i) t) → r ≡ field_of low ty (map (pin_word words) (pins_at counts places g))
unfolding field_of
field_made words counts places g low i ty all r one hi ha l h = is_word 64 (moved_up low gives) r l (λ t b. h t b ∙ at t b)
  where
    gives : ℕ → Bool
    gives t = gate_fn ty (map (λ w. bit w t) (map (pin_word words) (pins_at counts places g)))

    at : (t : ℕ) → t < 64 → moved_up low (λ u. differ (bit all u) i) t ≡ moved_up low gives t
    at zero b = refl
    at (suc u) b = gather_gate (pin_bit words u) places g ty counts i (bit all u) _ one hi (ha u) refl ∙ ap (gate_fn ty) (sym (map-map (λ w. bit w u) (pin_word words) (pins_at counts places g)))

-- A pass

pub passed_none : (before : List Bool) (types counts places words : List ℕ) (f : ℕ → ℕ) → length words ≡ 256 → words ≡ passed before types counts places words (listed f 0)
unfolding passed
passed_none before types counts places words f e =
    rw (listed_none f, run_none eqb (pins_at counts places) eqb-true (λ k. eq-eqb k k refl) (field_at before types) (pin_word words))
    (is_listed (pin_word words) 256 0 words e (λ i l. sym (at_net (word_of 64 (λ t. open_value)) (λ m. get_or words m 0) i (not_open i (omega arith)))))

-- gate g, the i-th of an order, with the field r that it makes of its pins' words
pub passed_more : (before : List Bool) (types counts places start : List ℕ) (n : ℕ) → n ≤ 256 → Fitting counts places n → (f : ℕ → ℕ) (i : ℕ) → ((j : ℕ) → j ≤ i → f j < 256)
    → (g r : ℕ) (words : List ℕ) → g ≡ f i → words ≡ passed before types counts places start (listed f i)
    → r ≡ field_at before types g (map (pin_word words) (pins_at counts places g)) → set words g r ≡ passed before types counts places start (listed f (i + 1))
unfolding passed
passed_more before types counts places start n few fitting f i below g r words a b e =
    pass_more (pins_at counts places) (field_at before types) (pin_word start) (word_of 64 (λ t. open_value)) (at_open (word_of 64 (λ t. open_value)) (λ m. get_or start m 0))
    n few fitting f i below g r words a b e

-- a gate that is still to come has its own word
pub own_top : (before : List Bool) (types counts places start : List ℕ) (f : ℕ → ℕ) (i g : ℕ) (words : List ℕ) → g < 256 → ((j : ℕ) → j < i → ¬ (f j ≡ g))
    → words ≡ passed before types counts places start (listed f i) → bit (get_or words g 0) 63 ≡ get_or (tops_of start) g false
unfolding passed
own_top before types counts places start f i g words l apart e =
    ap (λ ws. bit (get_or ws g 0) 63) e
    ∙ ap (λ w. bit w 63)
    (listed_at (run eqb (pins_at counts places) (field_at before types) (pin_word start) (listed f i)) 256 g 0 l
    ∙ run_leaves_others eqb (pins_at counts places) eqb-true (λ k. eq-eqb k k refl) (field_at before types) (pin_word start) (listed f i) g
    (λ k m. let o = out_listed f i k m in ne_eqb g k (λ q. apart o.0 o.1 (sym o.2 ∙ sym q)))
    ∙ at_net (word_of 64 (λ t. open_value)) (λ m. get_or start m 0) g (not_open g (omega arith)))
    ∙ sym (listed_at (λ n. bit (get_or start n 0) 63) 256 g false l)
