-- What the pins of a gate read: an open one what an open pin has, another the variable of its largest element below the time. Assumes nothing.
use mathlib.Core.Path.{◌≡◌, sym, ap, ap₂, ◌∙◌}
use mathlib.Core.Bool.{Bool}
use mathlib.Core.List.{List, map, map-map}
use mathlib.Core.Logic.{◌⊎◌, inl, inr}
use Prim.Native.Nat.{ℕ, ◌<◌}
use native.Mathlib.Omega.{arith}
use lib.ListN.{get_or}
use Rattle.word.specs.Word.{bit, differ}
use Rattle.word.specs.Times.{greatest, no_time, zero_in}
use Rattle.gate.specs.Gate.{inverts, gate as gate_fn}
use Rattle.gate.specs.Inner.Pins.{by_pins}
use Rattle.rule.specs.Net.{open_pin, at_pin}
use Rattle.rule.proofs.Nets.{at_open, at_net}
use Rattle.card_wiring.specs.Layout.{pins_at}
use Rattle.card_wiring.proofs.Gathered.{gather_gate}
use Rattle.card_wiring.specs.Inner.Wires.{Gates}
use Rattle.step_vars.specs.Variables.{held_in, vars_of, read_in, reads_in, fn_in}

-- a pin that is not open names a net
pub pin_names : (p n : ℕ) → (p < 256) ⊎ (p ≡ open_pin) → ¬ (p ≡ open_pin) → n ≡ p → n < 256
pin_names p n (inl l) q e = omega arith
pin_names p n (inr o) q e = absurd (q o)

module _ (loose : Bool) (words sets : List ℕ) (t p : ℕ) where
  pub read_open : p ≡ open_pin → loose ≡ held_in loose words (read_in sets t p)
  unfolding held_in read_in
  read_open e = rw e (sym (at_open loose _))

  -- a pin that names net n, where u is the largest element of its set, 0 inserted, below t
  pub read_net : (n u : ℕ) (b : Bool) → ¬ (p ≡ open_pin) → n ≡ p → u ≡ greatest (zero_in (bit (get_or sets n 0))) t no_time
      → b ≡ bit (get_or words n 0) u → b ≡ held_in loose words (read_in sets t p)
  unfolding held_in read_in
  read_net n u b q e m r =
      r ∙ ap (bit (get_or words n 0)) m
      ∙ ap (λ k. bit (get_or words k 0) (greatest (zero_in (bit (get_or sets k 0))) t no_time)) e
      ∙ ap (λ x. bit (get_or words p 0) (greatest (zero_in (bit x)) t no_time)) (sym (at_net 1 (λ k. get_or sets k 0) p q))
      ∙ sym (at_net loose (λ k. bit (get_or words k 0) (greatest (zero_in (bit (at_pin 1 (λ m. get_or sets m 0) p))) t no_time)) p q)

-- what pin p reads at time t
abbrev pub pin_value : List ℕ → List ℕ → ℕ → ℕ → Bool
pin_value vars sets t p = vars_of vars (read_in sets t p)

-- what a gate gives of what its pins come to is its function of the variables that they read
pub value_made : (vars counts places sets : List ℕ) (g t : ℕ) (types : List ℕ) (ty : ℕ) (i all b : Bool) → Gates types counts g → ty ≡ get_or types g 0 → i ≡ inverts ty
    → all ≡ by_pins ty (map (pin_value vars sets t) (pins_at counts places g)) → b ≡ differ all i
    → b ≡ fn_in types (record { net = g; time = t }) (map (vars_of vars) (reads_in counts places sets (record { net = g; time = t })))
value_made vars counts places sets g t types ty i all b are e hi ha hb =
    gather_gate (pin_value vars sets t) places g ty counts i all b (λ l. are.single (omega (arith, e, l))) hi ha hb
    ∙ ap₂ gate_fn e (sym (map-map (vars_of vars) (read_in sets t) (pins_at counts places g)))
