-- What a session that holds a card keeps of it. Assumes nothing.
use mathlib.Core.Path.{◌≡◌, refl, sym, ap, ap₂, ◌∙◌, subst}
use mathlib.Core.Bool.{Bool, true, false, cond, false≢true}
use mathlib.Core.List.{List}
use mathlib.Core.Logic.{◌⊎◌}
use Prim.Native.Nat.{ℕ, ◌+◌, ◌≤◌, ◌<◌}
use native.Mathlib.Omega.{arith}
use native.Mathlib.Decide.{dec_le}
use lib.Dec.{eqb, ltb, lit<}
use lib.ListN.{length, get_or, take}
use borrow.Author.Tests.{lt-ltb, le-ltb, eqb-false}
use Rattle.lists.specs.Entries.{◌∈◌}
use Rattle.lists.specs.Listed.{listed}
use Rattle.lists.proofs.Listed.{length_listed, listed_at, listed_all}
use Rattle.lists.proofs.Number.{distinct_below}
use Rattle.word.specs.Word.{word_of}
use Rattle.rule.specs.Net.{Net as CardNet, pins, open_pin}
use Rattle.rule.specs.Chain.{pc_set}
use Rattle.rule.specs.Level.{level, depth}
use Rattle.rule.specs.Steps.{gate_order, step_list}
use Rattle.rule.specs.declared.Refusal.TheVariants.{NotReady, NoSuchNet}
use Rattle.std.specs.Prelude.{Ok, Err}
use Rattle.rule.proofs.Depths.{level_depth}
use Rattle.rule.proofs.GateOrders.{out_order, order_once}
use Rattle.card_wiring.specs.Layout.{kinds_of, types_of, counts_of, places_of, pins_at, padded}
use Rattle.card_wiring.specs.Inner.Wires.{delay_at, Wires, Fitting, all_fit, backs, highest, sizes_of}
use Rattle.card_wiring.specs.Wired.{set_words}
use Rattle.card_wiring.proofs.Layouts.{pins_laid, levels_laid, depth_laid, wires_laid, card_laid}
use Rattle.card_wiring.proofs.Pins.{all_fitting, front_listed}
use Rattle.card_wiring.proofs.Orders.{padded_all, padded_back}
use Rattle.card_wiring.proofs.CardSets.{sizes_laid}
use Rattle.inputs.specs.Inputs.{input_nets}
use Rattle.card_records.proofs.Fitted.{Fitted, fitted}
use Rattle.card.specs.declared.Session.{Session}
use Rattle.card.specs.Session.{none, inputs_of, session_of, card_of, resting}
use Rattle.card.specs.Allowed.{Legible, Fed, Accepted}
use Rattle.card.specs.Held.{HasCard, Carded}
use Rattle.card.specs.Asked.{net_asked, depth_asked, steps_asked}
use Rattle.card.proofs.Tests.{tells_false, fed_tells, deep_tells, long_tells}

-- a legible card fits the arrays, its gates have pins and known types
pub legible_fits : (c : List CardNet) → Legible c → Fitted c
legible_fits c l = fitted c l.legal l.few

-- a card that load takes is held by the session that it leaves
pub session_card : (c : List CardNet) → Accepted c → card_of (session_of c) ≡ c
unfolding card_of session_of
session_card c a = card_laid c (legible_fits c a.legible).fits

pub session_holds : (c : List CardNet) → Accepted c → HasCard (session_of c)
unfolding session_of
session_holds c a =
    let e = session_card c a in
    record { accepted = rw e a; laid = rw e refl }

pub resting_holds : (s : Session) (rested : Bool) (before : List Bool) (words : List ℕ) → HasCard s → HasCard (resting s rested before words)
unfolding card_of
resting_holds s rested before words h = record { accepted = h.accepted; laid = ap (λ x. resting x rested before words) h.laid }

module _ (s : Session) (h : HasCard s) where
  abbrev c : List CardNet
  c = card_of s

  abbrev kept : Session
  kept = resting (session_of c) s.rested s.before s.words

  pub loaded_is : s.loaded ≡ true
  unfolding session_of
  loaded_is = ap (λ x. x.loaded) h.laid

  pub nets_are : s.nets ≡ length c
  unfolding session_of
  nets_are = ap (λ x. x.nets) h.laid

  pub inputs_are : s.inputs ≡ inputs_of c
  unfolding session_of
  inputs_are = ap (λ x. x.inputs) h.laid

  -- there is an input, and so a net
  pub inputs_some : (0 < s.inputs) × (0 < s.nets)
  inputs_some =
      let fed = h.accepted.fed in
      let some = tells_false (eqb (inputs_of c) 0) (¬ Fed c) (fed_tells c) (λ n. n fed) in
      let more : ¬ (inputs_of c ≡ 0) = eqb-false (inputs_of c) 0 some in
      (omega (arith, inputs_are, more), omega (arith, nets_are, fed.1))

  pub gates_are : s.gates ≡ length (gate_order c)
  unfolding session_of
  gates_are = ap (λ x. x.gates) h.laid

  pub kinds_are : s.kinds ≡ kinds_of c
  unfolding session_of
  kinds_are = ap (λ x. x.kinds) h.laid

  pub types_are : s.types ≡ types_of c
  unfolding session_of
  types_are = ap (λ x. x.types) h.laid

  pub counts_are : s.counts ≡ counts_of c
  unfolding session_of
  counts_are = ap (λ x. x.counts) h.laid

  pub places_are : s.places ≡ places_of c
  unfolding session_of
  places_are = ap (λ x. x.places) h.laid

  pub order_is : s.order ≡ padded (gate_order c)
  unfolding session_of
  order_is = ap (λ x. x.order) h.laid

  pub feeds_are : s.feeds ≡ input_nets s.kinds 256
  unfolding session_of
  feeds_are = ap (λ x. x.feeds) h.laid ∙ ap (λ ks. input_nets ks 256) (sym kinds_are)

  pub sets_are : s.sets ≡ set_words c
  unfolding session_of
  sets_are = ap (λ x. x.sets) h.laid

  pub card_fits : Fitted c
  card_fits = legible_fits c h.accepted.legible

  -- the arrays have room for its nets
  pub few : s.nets ≤ 256
  few = omega (arith, nets_are, card_fits.fits.few)

  -- and for its gates, which they hold in their order
  few_gates : length (gate_order c) ≤ 256
  few_gates = omega (arith, distinct_below (length c) (gate_order c) (order_once c) (λ g m. (out_order c g m).1), card_fits.fits.few)

  pub order_back : listed (λ i. get_or s.order i 0) s.gates ≡ gate_order c
  order_back = ap₂ (λ xs k. listed (λ i. get_or xs i 0) k) order_is gates_are ∙ padded_back (gate_order c) few_gates

  pub order_fits : (s.gates ≤ 256) × ((i : ℕ) → get_or s.order i 0 < 256)
  order_fits = (
    omega (arith, gates_are, few_gates),
    λ i. subst (λ xs. get_or xs i 0 < 256) (sym order_is) (padded_all (λ x. x < 256) (gate_order c) i (λ g m. omega (arith, (out_order c g m).1, card_fits.fits.few)) (lit< tt)),
  )

  -- so the loops over its arrays may run,
  pub card_wires : Wires s.counts s.places s.nets
  card_wires =
      subst (λ x. Wires x s.places s.nets) (sym counts_are)
      (subst (λ y. Wires (counts_of c) y s.nets) (sym places_are) (subst (Wires (counts_of c) (places_of c)) (sym nets_are) (wires_laid c card_fits.fits)))

  pub card_pins : pins_at s.counts s.places ≡ pins c
  card_pins = ap₂ pins_at counts_are places_are ∙ pins_laid c card_fits.fits

  pub card_fitting : Fitting s.counts s.places s.nets
  card_fitting g p m = subst (λ k. (p < k) ⊎ (p ≡ open_pin)) (sym nets_are) (h.accepted.named g p (subst (λ f. p ∈ f g) card_pins m))

  pub card_all_fit : all_fit s.counts s.places s.nets ≡ true
  card_all_fit = all_fitting s.counts s.places s.nets card_fitting

  -- its gates stand at the front of their array,
  pub gates_fit : s.gates ≤ length s.order
  gates_fit = let few = order_fits.0 in rw (order_is, length_listed) few

  pub gates_front : take s.gates s.order ≡ listed (λ i. get_or s.order i 0) s.gates
  gates_front = front_listed s.order s.gates gates_fit

  -- and are nets
  pub gates_few : (gs : List ℕ) → gs ≡ listed (λ i. get_or s.order i 0) s.gates → (length gs ≤ 256) × ((i : ℕ) → get_or gs i 0 < 256)
  gates_few gs e =
      rw (e, length_listed)
      (order_fits.0, λ i. listed_all (λ x. x < 256) (λ k. get_or s.order k 0) s.gates i 0 (order_fits.1 i) (lit< tt))

  -- its depth and the number of its steps are within the limits
  pub card_depth : depth c ≤ 63
  card_depth = go (dec_le (depth c) 63)
    where
      go : Dec (depth c ≤ 63) → depth c ≤ 63
      go (yes l) = l
      go (no l) = absurd (h.accepted.shallow ((deep_tells c).yes_is (lt-ltb 63 (depth c) (omega arith))))

  pub card_level : (n : ℕ) → level c n ≤ 63
  card_level n = omega (arith, level_depth c n, card_depth)

  pub card_steps : length (step_list c) ≤ 4096
  card_steps = go (dec_le (length (step_list c)) 4096)
    where
      go : Dec (length (step_list c) ≤ 4096) → length (step_list c) ≤ 4096
      go (yes l) = l
      go (no l) = absurd (h.accepted.short ((long_tells c h.accepted.free card_fits.pinned).yes_is (lt-ltb 4096 (length (step_list c)) (omega arith))))

  -- the levels worked out from its wiring are the card's, and so is the depth
  levels_are : backs delay_at s.counts s.places (s.nets + 1) ≡ listed (level c) 256
  levels_are =
      ap₂ (λ x y. backs delay_at x y (s.nets + 1)) counts_are places_are
      ∙ ap (λ k. backs delay_at (counts_of c) (places_of c) (k + 1)) nets_are ∙ levels_laid c card_fits.fits

  pub card_levels : (n : ℕ) → n < s.nets → get_or (backs delay_at s.counts s.places (s.nets + 1)) n 0 ≡ level c n
  card_levels n l = ap (λ xs. get_or xs n 0) levels_are ∙ listed_at (level c) 256 n 0 (omega (arith, few))

  pub depth_is : highest (backs delay_at s.counts s.places (s.nets + 1)) s.nets ≡ depth c
  depth_is = ap₂ highest levels_are nets_are ∙ depth_laid c card_fits.fits

  -- the words are its PC-sets, and their sizes added are the number of its steps

  set_at : (n : ℕ) → n < 256 → get_or s.sets n 0 ≡ cond (ltb n (length c)) (word_of 64 (pc_set c n)) 0
  unfolding set_words
  set_at n l = ap (λ xs. get_or xs n 0) sets_are ∙ listed_at (λ m. cond (ltb m (length c)) (word_of 64 (pc_set c m)) 0) 256 n 0 l

  pub card_sets : (n : ℕ) → n < length c → get_or s.sets n 0 ≡ word_of 64 (pc_set c n)
  card_sets n l = let few = card_fits.fits.few in set_at n (omega arith) ∙ rw (lt-ltb n (length c) l)

  pub past_sets : (n : ℕ) → n < 256 → length c ≤ n → get_or s.sets n 0 ≡ 0
  past_sets n b l = set_at n b ∙ rw (le-ltb n (length c) l)

  pub steps_is : sizes_of s.sets (listed (λ i. get_or s.order i 0) s.gates) ≡ length (step_list c)
  steps_is = ap₂ sizes_of sets_are order_back ∙ sizes_laid c h.accepted.free card_fits.fits card_depth

-- The question about a net: 12, 13, or its level and word

pub asked_none : (s : Session) (n : ℕ) → s.loaded ≡ false → Err NotReady ≡ net_asked s n
unfolding net_asked
asked_none s n e = rw e

pub asked_past : (s : Session) (n : ℕ) → s.loaded ≡ true → s.nets ≤ n → Err NoSuchNet ≡ net_asked s n
unfolding net_asked
asked_past s n e l = rw (e, le-ltb n s.nets l)

pub asked_here : (s : Session) → HasCard s → (n l w : ℕ) → s.loaded ≡ true → n < s.nets
    → l ≡ get_or (backs delay_at s.counts s.places (s.nets + 1)) n 0 → w ≡ get_or s.sets n 0 → Ok (record { level = l; word = w }) ≡ net_asked s n
unfolding net_asked
asked_here s h n l w e b el ew =
    let few = (card_fits s h).fits.few in
    let x : l ≡ level (card_of s) n = el ∙ card_levels s h n b in
    let y : w ≡ word_of 64 (pc_set (card_of s) n) = ew ∙ card_sets s h n (omega (arith, nets_are s h)) in
    ap₂ (λ l w. Ok (record { level = l; word = w })) x y ∙ rw (e, lt-ltb n s.nets b)

-- The depth and the number of steps of a card that is loaded

pub depth_loaded : (s : Session) → s.loaded ≡ true → depth_asked s ≡ depth (card_of s)
unfolding depth_asked
depth_loaded s e = rw e

pub steps_loaded : (s : Session) → s.loaded ≡ true → steps_asked s ≡ length (step_list (card_of s))
unfolding steps_asked
steps_loaded s e = rw e

-- The empty session holds no card, and load keeps what sessions keep

pub none_carded : Carded none
unfolding none
none_carded e = absurd (false≢true e)

pub taken_carded : (c : List CardNet) → Accepted c → Carded (session_of c)
taken_carded c a e = session_holds c a
