-- Good is met by a rested session with gates: the card of document 01's example is loaded, rested and moved by a vector, and each is done.
-- Only the tests are worked out. Assumes nothing.
use mathlib.Core.Path.{◌≡◌, refl, sym, ap, ◌∙◌}
use mathlib.Core.Bool.{true}
use mathlib.Core.List.{List, [], ◌∷◌}
use Prim.Native.Nat.{ℕ, zero, suc}
use native.Mathlib.Omega.{arith}
use lib.Dec.{ltb}
use lib.ListN.{length}
use borrow.Author.Tests.{ltb-true}
use Rattle.lists.specs.Entries.{every}
use Rattle.lists.proofs.Bools.{and_both}
use Rattle.word.specs.Times.{count}
use Rattle.rule.specs.Net.{open_pin, at_pin, net_at}
use Rattle.rule.specs.Chain.{pc_set}
use Rattle.rule.specs.Level.{longest, level, depth}
use Rattle.rule.specs.Steps.{gate_order, net_steps, step_list}
use Rattle.std.specs.Prelude.{Ok}
use Rattle.card_wiring.specs.Wired.{pins_fit, most_back, verdict_of, wired_of}
use Rattle.inputs.specs.Inputs.{given}
use Rattle.inputs.proofs.Verdicts.{fits_vector}
use Rattle.card_records.specs.Written.{Bytes}
use Rattle.card_records.specs.Example.{example_card}
use Rattle.card_records.proofs.Example.{example_nets, example_read}
use Rattle.card.specs.declared.Session.{Session}
use Rattle.card.specs.Session.{none, inputs_of, session_of}
use Rattle.card.proofs.Sessions.{taken_loaded, taken_sizes}
use Rattle.card.specs.Load.{concluded, judged, load_meant, load_of, taken}
use Rattle.session.specs.Good.{Good}
use Rattle.session.specs.Moves.{moved_by, vector_of, rested_by, rest_of}
use Rattle.session.proofs.Refusals.{rest_takes, vector_takes}
use Rattle.session.proofs.Kept.{none_good, load_good, rest_good, vector_good}

bytes_below : (s : List ℕ) → every (λ b. ltb b 256) s ≡ true → Bytes s
bytes_below [] e i = omega arith
bytes_below (b ∷ s) e zero = ltb-true b 256 (and_both (ltb b 256) _ e).0
bytes_below (b ∷ s) e (suc i) = bytes_below s (and_both (ltb b 256) _ e).1 i

-- Load

pub example_loaded : Session
example_loaded = (load_of none example_card).session

-- the card passes every test of its wiring, and has three inputs and two gates
worked_out : (verdict_of (wired_of example_nets) ≡ (Ok tt)) × (inputs_of example_nets ≡ 3) × (length (gate_order example_nets) ≡ 2)
unfolding wired_of pins_fit most_back open_pin at_pin net_at longest level depth gate_order net_steps step_list pc_set inputs_of count
worked_out = (refl, refl, refl)

pub example_load : load_of none example_card ≡ taken example_nets
unfolding load_of judged
example_load = ap (load_meant none) example_read ∙ rw worked_out.1 (ap (concluded none (session_of example_nets) (length example_nets)) worked_out.0)

card_loaded : (example_loaded.loaded ≡ true) × (example_loaded.inputs ≡ 3) × (example_loaded.gates ≡ 2)
unfolding example_loaded
card_loaded =
    let sizes = taken_sizes example_nets in (
      ap (λ x. x.session.loaded) example_load ∙ taken_loaded example_nets,
      ap (λ x. x.session.inputs) example_load ∙ sizes.0 ∙ worked_out.1,
      ap (λ x. x.session.gates) example_load ∙ sizes.1 ∙ worked_out.2,
    )

-- "03000500000101": the rest vector 0 1 1

pub example_rested : Session
example_rested = (rest_of example_loaded (0 ∷ 1 ∷ 1 ∷ [])).session

pub example_rest : rest_of example_loaded (0 ∷ 1 ∷ 1 ∷ []) ≡ record { answer = Ok 0; session = rested_by example_loaded (given example_loaded.kinds (0 ∷ 1 ∷ 1 ∷ [])) }
example_rest = rest_takes example_loaded (0 ∷ 1 ∷ 1 ∷ []) card_loaded.0 (fits_vector _ _ (sym card_loaded.1) refl)

card_rested : (example_rested.rested ≡ true) × (example_rested.inputs ≡ 3) × (example_rested.gates ≡ 2)
unfolding example_rested rested_by
card_rested = (ap (λ x. x.session.rested) example_rest, ap (λ x. x.session.inputs) example_rest ∙ card_loaded.1, ap (λ x. x.session.gates) example_rest ∙ card_loaded.2)

-- "03000600010100": the vector 1 1 0

pub example_moved : Session
example_moved = (vector_of example_rested (1 ∷ 1 ∷ 0 ∷ [])).session

pub example_vector : vector_of example_rested (1 ∷ 1 ∷ 0 ∷ []) ≡ record { answer = Ok 0; session = moved_by example_rested (given example_rested.kinds (1 ∷ 1 ∷ 0 ∷ [])) }
example_vector = vector_takes example_rested (1 ∷ 1 ∷ 0 ∷ []) card_rested.0 (fits_vector _ _ (sym card_rested.1) refl)

-- the predicate is met by the session that a real card leaves: loaded, at rest, and after a vector

pub witness_loaded : Good example_loaded × (example_loaded.loaded ≡ true) × (example_loaded.gates ≡ 2)
unfolding example_loaded
witness_loaded = (load_good none example_card none_good (bytes_below example_card refl), card_loaded.0, card_loaded.2)

pub witness_rested : Good example_rested × (example_rested.rested ≡ true) × (example_rested.gates ≡ 2)
unfolding example_rested
witness_rested = (rest_good example_loaded witness_loaded.0 (0 ∷ 1 ∷ 1 ∷ []), card_rested.0, card_rested.2)

pub witness_moved : Good example_moved × (example_moved.rested ≡ true) × (example_moved.gates ≡ 2)
unfolding example_moved moved_by
witness_moved = (
  vector_good example_rested witness_rested.0 (1 ∷ 1 ∷ 0 ∷ []),
  ap (λ x. x.session.rested) example_vector ∙ card_rested.0,
  ap (λ x. x.session.gates) example_vector ∙ card_rested.2,
)
