-- A card that was read fits the arrays; each of its gates has a known type and the pins that the type asks, at least one and at most 8.
-- Assumes nothing.
use mathlib.Core.Path.{◌≡◌, refl, ap}
use mathlib.Core.Bool.{Bool, true, false}
use mathlib.Core.List.{List}
use Prim.Native.Nat.{ℕ, ◌≤◌, ◌<◌}
use native.Mathlib.Omega.{arith}
use lib.ListN.{length}
use Rattle.lists.specs.Entries.{◌∈◌}
use Rattle.lists.proofs.Order.{at_in}
use Rattle.rule.specs.Net.{Net, constant, net_at, pins_of, pins, is_source, Pinned}
use Rattle.rule.proofs.Nets.{net_here, gate_listed, source_pins}
use Rattle.card_wiring.specs.Layout.{type_of}
use Rattle.card_wiring.specs.Inner.Wires.{Fits}
use Rattle.card_records.specs.Bytes.{type_fits}
use Rattle.card_records.specs.Scan.{Means, meaning}
use Rattle.card_records.specs.Written.{AllLegal, Bytes}
use Rattle.card_records.proofs.Heads.{type_known}
use Rattle.card_records.proofs.Cards.{written}

-- what a gate has where it is legal
abbrev pub KnownGate : Net → Type 0
KnownGate w = (type_of w < 8) × (0 < length (pins_of w)) × (length (pins_of w) ≤ 8) × (type_fits (type_of w) (length (pins_of w)) ≡ true)

pub record Fitted (c : List Net) : Type 0 where
  pub fits : Fits c
  pub pinned : Pinned c
  pub gates : (n : ℕ) → is_source (net_at c n) ≡ false → KnownGate (net_at c n)

module _ (c : List Net) (legal : AllLegal c) (few : length c ≤ 256) where
  legal_gate : (n : ℕ) → is_source (net_at c n) ≡ false → KnownGate (net_at c n)
  legal_gate n e =
      let l : n < length c = gate_listed c n e in
      let here : net_at c n ∈ c = rw (net_here c n (omega arith)) (at_in c n (constant false) l) in
      let ok = legal (net_at c n) here e in
      let known = type_known (type_of (net_at c n)) (length (pins c n)) ok.0 in
      (known.0, known.1, ok.1, ok.0)

  narrow : (n : ℕ) → length (pins c n) ≤ 8
  narrow n = go (is_source (net_at c n)) refl
    where
      go : (b : Bool) → is_source (net_at c n) ≡ b → length (pins c n) ≤ 8
      go true e = omega (arith, ap length (source_pins (net_at c n) e))
      go false e = (legal_gate n e).2

  pub fitted : Fitted c
  fitted = record {
    fits = record { few = few; narrow = narrow };
    pinned = λ n e none. omega (arith, (legal_gate n e).1, ap length none);
    gates = legal_gate;
  }

pub read_fits : (s : List ℕ) → Bytes s → (c : List Net) → meaning s ≡ Means c → Fitted c
read_fits s bytes c e = let w = written s bytes c e in fitted c w.1 w.2
