-- Examples of document 01: its card is read, 256 nets are taken, a 257th gets 3, and no bytes at all get 1. Assumes nothing.
use mathlib.Core.Path.{◌≡◌, refl}
use mathlib.Core.Bool.{true≢false}
use mathlib.Core.List.{List, [], ◌∷◌, ◌++◌}
use Prim.Native.Nat.{ℕ, zero, suc}
use native.Mathlib.Omega.{arith}
use lib.ListN.{replicate, length-replicate}
use Rattle.lists.specs.Entries.{each}
use Rattle.lists.specs.Listed.{listed, listed_from}
use Rattle.rule.specs.Net.{Net, input, gate}
use Rattle.rule.specs.declared.Refusal.TheVariants.{CutShort, TooManyNets}
use Rattle.card_records.specs.Bytes.{u16_at, kind_fits, type_fits, body_fits, net_record, record_at, record_read}
use Rattle.card_records.specs.Scan.{Stops, Means, net_meant, scan, meaning}
use Rattle.card_records.specs.Stopped.{no_head, no_room}
use Rattle.card_records.specs.Example.{example_card}
use Rattle.card_records.specs.Written.{net_bytes, card_bytes, Legal, AllLegal}
use Rattle.card_records.proofs.Cards.{none_legal, all_legal, read_back, stops}

-- its nets
abbrev pub example_nets : List Net
example_nets = input ∷ input ∷ input ∷ gate 2 (0 ∷ 1 ∷ []) ∷ gate 4 (3 ∷ 2 ∷ []) ∷ []

pub example_read : meaning example_card ≡ Means example_nets
unfolding u16_at kind_fits type_fits body_fits net_record record_at record_read net_meant scan listed listed_from
example_read = refl

pub example_written : example_card ≡ card_bytes example_nets
unfolding net_bytes card_bytes
example_written = refl

-- "256 nets are taken; a 257th gets 3."
input_legal : Legal input
input_legal e = absurd (true≢false e)

all_inputs : (k : ℕ) → AllLegal (replicate k input)
all_inputs zero = none_legal
all_inputs (suc k) = all_legal input (replicate k input) input_legal (all_inputs k)

pub full_read : meaning (card_bytes (replicate 256 input)) ≡ Means (replicate 256 input)
full_read = read_back (replicate 256 input) (all_inputs 256) (omega (arith, length-replicate 256 input))

pub one_too_many : (later : List ℕ) → meaning (each net_bytes (replicate 256 input) ++ (net_bytes input ++ later)) ≡ Stops TooManyNets
one_too_many later = stops _ TooManyNets record {
  nets = replicate 256 input;
  legal = all_inputs 256;
  few = omega (arith, length-replicate 256 input);
  rest = net_bytes input ++ later;
  split = refl;
  stops = no_room input later input_legal refl (length-replicate 256 input);
}

-- "No bytes at all: 1."
pub no_bytes : meaning [] ≡ Stops CutShort
no_bytes = stops [] CutShort record {
  nets = [];
  legal = none_legal;
  few = omega arith;
  rest = [];
  split = refl;
  stops = no_head (omega arith);
}
