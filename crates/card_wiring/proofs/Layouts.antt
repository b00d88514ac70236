-- A card laid out in arrays: its pins stand there, so what is worked out over the arrays is the card's own. Assumes nothing.
use mathlib.Core.Path.{◌≡◌, refl, sym, ap, ◌∙◌}
use mathlib.Core.Bool.{Bool, false, cond, true≢false}
use mathlib.Core.List.{List, [], ◌∷◌, map}
use Prim.Native.Nat.{ℕ, ◌+◌, ◌*◌, ◌/◌, ◌%◌, ◌≤◌, ◌<◌}
use native.Mathlib.Omega.{arith}
use native.Mathlib.Decide.{dec_lt}
use lib.Dec.{eqb, ltb}
use lib.ListN.{length, get_or}
use borrow.Author.Tests.{lt-ltb, le-ltb}
use Rattle.lists.specs.Entries.{◌∈◌, every, when, from}
use Rattle.lists.specs.Listed.{listed}
use Rattle.lists.proofs.Tests.{every_ext, map_on}
use Rattle.lists.proofs.Joined.{each_ext, out_from}
use Rattle.lists.proofs.Listed.{listed_none, listed_at, listed_past, listed_all, is_listed}
use Rattle.word.proofs.Words.{one_val}
use Rattle.gate.specs.Gate.{gate as gate_fn}
use Rattle.rule.specs.Net.{Net, input, constant, gate, net_at, pins_of, pins, is_input, is_source}
use Rattle.rule.specs.Rule.{net_fn}
use Rattle.rule.specs.Level.{most, longest, delay, gates_back, level, depth}
use Rattle.rule.specs.Steps.{gate_order}
use Rattle.rule.proofs.Nets.{source_pins, past_source, net_here}
use Rattle.card_wiring.specs.Layout.{kind_of, type_of, kinds_of, types_of, counts_of, places_of, pins_at, net_of, card_in}
use Rattle.card_wiring.specs.Inner.Wires.{Fits, delay_at, Wires, all_fit, backs, highest, row, order_of}
use Rattle.card_wiring.specs.Wired.{pin_fits, pins_fit, most_back}

-- A net's kind and type

pub kind_input : (w : Net) → eqb (kind_of w) 1 ≡ is_input w
kind_input input = refl
kind_input (constant k) = refl
kind_input (gate ty ps) = refl

-- a gate's function is that of its type
pub gate_fn_lem : (w : Net) (x : Bool) (vs : List Bool) → is_source w ≡ false → net_fn w x vs ≡ gate_fn (type_of w) vs
gate_fn_lem input x vs e = absurd (true≢false e)
gate_fn_lem (constant k) x vs e = absurd (true≢false e)
gate_fn_lem (gate ty ps) x vs e = refl

same_net : (w : Net) → net_of (kind_of w) (type_of w) (pins_of w) ≡ w
same_net input = refl
same_net (constant k) = ap constant (one_val k)
same_net (gate ty ps) = refl

-- A card's arrays

module _ (c : List Net) (fit : Fits c) where
  pub count_at : (g : ℕ) → g < 256 → get_or (counts_of c) g 0 ≡ length (pins c g)
  unfolding counts_of
  count_at g l = listed_at (λ n. length (pins c n)) 256 g 0 l

  place_at : (g j : ℕ) → g < 256 → j < 8 → get_or (places_of c) (g * 8 + j) 0 ≡ get_or (pins c g) j 0
  unfolding places_of
  place_at g j l h =
      let x : (g * 8 + j) / 8 ≡ g = omega arith in
      let y : (g * 8 + j) % 8 ≡ j = omega arith in
      listed_at (λ k. get_or (pins c (k / 8)) (k % 8) 0) 2048 (g * 8 + j) 0 (omega arith) ∙ rw (x, y)

  count_past : (g : ℕ) → 256 ≤ g → get_or (counts_of c) g 0 ≡ 0
  unfolding counts_of
  count_past g l = listed_past (λ n. length (pins c n)) 256 g 0 l

  past_pins : (g : ℕ) → length c ≤ g → pins c g ≡ []
  past_pins g l = source_pins (net_at c g) (past_source c g l)

  -- the arrays have the pins of every net, and none past the card
  pins_at_lem : (g : ℕ) → pins_at (counts_of c) (places_of c) g ≡ pins c g
  pins_at_lem g = go (dec_lt g 256)
    where
      go : Dec (g < 256) → pins_at (counts_of c) (places_of c) g ≡ pins c g
      go (yes l) =
          let narrow = fit.narrow g in
          rw (count_at g l) (sym (is_listed (λ j. get_or (places_of c) (g * 8 + j) 0) (length (pins c g)) 0 (pins c g) refl (λ j b. sym (place_at g j l (omega arith)))))
      go (no l) = let few = fit.few in rw (count_past g (omega arith)) (listed_none _ ∙ sym (past_pins g (omega arith)))

  pub pins_laid : pins_at (counts_of c) (places_of c) ≡ pins c
  pins_laid = λ i g. pins_at_lem g i

  pub fits_laid : all_fit (counts_of c) (places_of c) (length c) ≡ pins_fit c
  unfolding pins_fit
  fits_laid = every_ext _ _ (from 0 (length c)) (λ g. ap (every (pin_fits (length c))) (pins_at_lem g))

  -- the ways back from every net, by any weights, and the highest of some numbers
  backs_laid : (w : ℕ → ℕ) (k : ℕ) → backs w (counts_of c) (places_of c) k ≡ listed (longest w (pins c) k) 256
  backs_laid w k = ap (λ ps. listed (longest w ps k) 256) pins_laid

  laid_at : (f : ℕ → ℕ) (g : ℕ) → g ∈ from 0 (length c) → get_or (listed f 256) g 0 ≡ f g
  laid_at f g m = let few = fit.few in listed_at f 256 g 0 (omega (arith, (out_from 0 (length c) g m).1))

  highest_laid : (f : ℕ → ℕ) → highest (listed f 256) (length c) ≡ most (map f (from 0 (length c)))
  highest_laid f = ap most (map_on (λ g. get_or (listed f 256) g 0) f (from 0 (length c)) (laid_at f))

  -- the most gates counted backwards, whatever the delays
  pub back_laid : highest (backs (λ g. 1) (counts_of c) (places_of c) (length c + 1)) (length c) ≡ most_back c
  unfolding most_back
  back_laid = ap (λ xs. highest xs (length c)) (backs_laid (λ g. 1) (length c + 1)) ∙ highest_laid (gates_back c (length c + 1))

  -- the levels and the depth, by the delays
  pub levels_laid : backs delay_at (counts_of c) (places_of c) (length c + 1) ≡ listed (level c) 256
  unfolding level
  levels_laid = backs_laid (delay c) (length c + 1)

  pub depth_laid : highest (listed (level c) 256) (length c) ≡ depth c
  unfolding depth
  depth_laid = highest_laid (level c)

  pub order_laid : order_of (listed (level c) 256) (length c) (depth c) ≡ gate_order c
  unfolding order_of gate_order
  order_laid =
      each_ext (row (listed (level c) 256) (length c)) _ (from 1 (depth c))
      (λ l i. each_ext _ _ (from 0 (length c)) (λ g m. ap (λ x. when (eqb x l) (g ∷ [])) (laid_at (level c) g m)))

  -- what the loops ask of the arrays holds of them
  pub wires_laid : Wires (counts_of c) (places_of c) (length c)
  unfolding counts_of
  wires_laid = record {
    few = fit.few;
    narrow = λ g. listed_all (λ k. k ≤ 8) (λ n. length (pins c n)) 256 g 0 (fit.narrow g) (omega arith);
    past = λ g l. listed_all (λ k. k ≡ 0) (λ n. length (pins c n)) 256 g 0 (ap length (past_pins g l)) refl;
  }

  -- the arrays have the kind and the type of every net, and past the card the kind 0
  pub kind_at : (g : ℕ) → g < length c → get_or (kinds_of c) g 0 ≡ kind_of (net_at c g)
  unfolding kinds_of
  kind_at g l = let few = fit.few in listed_at (λ n. cond (ltb n (length c)) (kind_of (net_at c n)) 0) 256 g 0 (omega arith) ∙ rw (lt-ltb g (length c) l)

  pub kind_past : (g : ℕ) → length c ≤ g → get_or (kinds_of c) g 0 ≡ 0
  unfolding kinds_of
  kind_past g l = listed_all (λ k. k ≡ 0) (λ n. cond (ltb n (length c)) (kind_of (net_at c n)) 0) 256 g 0 (rw (le-ltb g (length c) l)) refl

  pub type_at : (g : ℕ) → g < length c → get_or (types_of c) g 0 ≡ type_of (net_at c g)
  unfolding types_of
  type_at g l = let few = fit.few in listed_at (λ n. cond (ltb n (length c)) (type_of (net_at c n)) 0) 256 g 0 (omega arith) ∙ rw (lt-ltb g (length c) l)

  -- and from the arrays the card is got back
  pub card_laid : card_in (kinds_of c) (types_of c) (counts_of c) (places_of c) (length c) ≡ c
  unfolding card_in
  card_laid = sym (is_listed _ (length c) (constant false) c refl (λ g l. sym (net g l)))
    where
      net : (g : ℕ) → g < length c
          → net_of (get_or (kinds_of c) g 0) (get_or (types_of c) g 0) (pins_at (counts_of c) (places_of c) g) ≡ get_or c g (constant false)
      net g l = let few = fit.few in rw (kind_at g l, type_at g l, pins_at_lem g) (same_net (net_at c g) ∙ net_here c g (omega arith))
