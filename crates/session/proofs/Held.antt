-- What a session that holds a card has for the loops over its arrays: the gates in their order, its inputs, and a pass along the gates. Assumes nothing.
use mathlib.Core.Path.{◌≡◌, sym, ap, ap₂, ◌∙◌, subst}
use mathlib.Core.Bool.{Bool, true, false, cond}
use mathlib.Core.List.{List}
use Prim.Native.Nat.{ℕ, ◌≤◌, ◌<◌}
use native.Mathlib.Omega.{arith}
use native.Mathlib.Decide.{dec_lt}
use lib.Dec.{eqb}
use lib.ListN.{length, get_or}
use Rattle.lists.specs.Entries.{◌∈◌, Distinct}
use Rattle.lists.specs.Listed.{listed}
use Rattle.lists.proofs.Listed.{length_listed, listed_at, in_listed}
use Rattle.lists.proofs.Order.{sorted_at}
use Rattle.word.specs.Times.{count}
use Rattle.word.specs.Word.{is_one, bit, word_of}
use Rattle.word.proofs.Words.{one_val}
use Rattle.word.proofs.Sets.{count_cong}
use Rattle.rule.specs.Net.{Net, constant, net_at, pins, is_input, is_source}
use Rattle.rule.specs.Rule.{value}
use Rattle.rule.specs.Steps.{gate_order}
use Rattle.rule.proofs.Nets.{not_open, net_past, gate_listed}
use Rattle.rule.proofs.GateOrders.{out_order, order_once}
use Rattle.card_wiring.specs.Layout.{kind_of, type_of, kinds_of, types_of}
use Rattle.card_wiring.specs.Inner.Wires.{Fits, Gates}
use Rattle.card_wiring.proofs.Layouts.{count_at, kind_at, kind_past, type_at}
use Rattle.inputs.specs.Inputs.{is_input_kind, rank, given}
use Rattle.inputs.proofs.Vectors.{rank_le}
use Rattle.inputs.proofs.Nets.{nets_low}
use Rattle.inputs.specs.Inner.Starts.{tops_of, nets_put, byte_word, constant_at}
use Rattle.fields.specs.Inner.Fields.{passed, advanced}
use Rattle.inputs.proofs.Starts.{inputs_put, nets_put_lem}
use Rattle.card_records.proofs.Heads.{type_single}
use Rattle.card.specs.declared.Session.{Session}
use Rattle.card.specs.Session.{card_of}
use Rattle.card.specs.Held.{HasCard}
use Rattle.card.proofs.Reading.{inputs_laid, inputs_all_counted}
use Rattle.card.proofs.Kept.{inputs_are, kinds_are, types_are, counts_are, places_are, feeds_are, card_fits, order_back, order_fits}
use Rattle.session.specs.Good.{histories}
use Rattle.session.specs.Moves.{given_to}
use Rattle.session.proofs.Histories.{pass_histories, put_still, put_ends}

-- a pass over the same arrays
same_pass : (start : List ℕ) {types types' counts counts' places places' order order' : List ℕ} → types ≡ types' → counts ≡ counts' → places ≡ places' → order ≡ order'
    → passed (tops_of start) types counts places start order ≡ passed (tops_of start) types' counts' places' start order'
same_pass start a b d e = rw (a, b, d, e)

module _ (s : Session) (h : HasCard s) where
  abbrev c : List Net
  c = card_of s

  -- The gates

  -- a gate's type, and what the arrays have of it
  pub gate_type : (g : ℕ) → is_source (net_at c g) ≡ false → get_or s.types g 0 ≡ type_of (net_at c g)
  gate_type g e = ap (λ xs. get_or xs g 0) (types_are s h) ∙ type_at c (card_fits s h).fits g (gate_listed c g e)

  pub gate_fits : (g : ℕ) → is_source (net_at c g) ≡ false → Gates s.types s.counts g
  gate_fits g e =
      let fits = (card_fits s h).fits in
      let few = fits.few in
      let below : g < 256 = omega (arith, gate_listed c g e) in
      let type = gate_type g e in
      let size : get_or s.counts g 0 ≡ length (pins c g) = ap (λ xs. get_or xs g 0) (counts_are s h) ∙ count_at c fits g below in
      let known = (card_fits s h).gates g e in
      record {
        net = below;
        type = omega (arith, type, known.0);
        pinned = omega (arith, size, known.1);
        single = λ l. size ∙ type_single (type_of (net_at c g)) (length (pins c g)) known.3 (omega (arith, type));
      }

  -- no gate stands twice in the order
  pub gates_once : (i j : ℕ) → i < j → j < s.gates → ¬ (get_or s.order i 0 ≡ get_or s.order j 0)
  gates_once i j l m e =
      let f : ℕ → ℕ = λ k. get_or s.order k 0 in
      let once : Distinct (listed f s.gates) = subst Distinct (sym (order_back s h)) (order_once c) in
      let here : (k : ℕ) → k < s.gates → get_or (listed f s.gates) k 0 ≡ f k = λ k b. listed_at f s.gates k 0 b in
      sorted_at (λ x y. ¬ (x ≡ y)) (listed f s.gates) 0 i j l (omega (arith, length_listed f s.gates)) once (here i (omega arith) ∙ e ∙ sym (here j m))

  pub gates_fit : (s.gates ≤ 256) × ((i : ℕ) → i < s.gates → Gates s.types s.counts (get_or s.order i 0))
  gates_fit =
      let listed_gate : (i : ℕ) → i < s.gates → get_or s.order i 0 ∈ gate_order c = λ i l. subst (λ xs. get_or s.order i 0 ∈ xs) (order_back s h) (in_listed (λ j. get_or s.order j 0) s.gates i l) in
      ((order_fits s h).0, λ i l. gate_fits (get_or s.order i 0) (out_order c (get_or s.order i 0) (listed_gate i l)).0)

  -- the same of them as a list of their own
  pub front_gates : (gs : List ℕ) → gs ≡ listed (λ k. get_or s.order k 0) s.gates
      → ((i : ℕ) → i < length gs → Gates s.types s.counts (get_or gs i 0)) × ((i j : ℕ) → i < j → j < length gs → ¬ (get_or gs i 0 ≡ get_or gs j 0))
  front_gates gs e =
      let long : length gs ≡ s.gates = ap length e ∙ length_listed (λ k. get_or s.order k 0) s.gates in
      let at : (i : ℕ) → i < s.gates → get_or gs i 0 ≡ get_or s.order i 0 = λ i l. ap (λ xs. get_or xs i 0) e ∙ listed_at (λ k. get_or s.order k 0) s.gates i 0 l in (
        λ i l. subst (Gates s.types s.counts) (sym (at i (omega arith))) (gates_fit.1 i (omega arith)),
        λ i j l m q. gates_once i j l (omega arith) (sym (at i (omega arith)) ∙ q ∙ at j (omega arith)),
      )

  -- The inputs

  pub inputs_ranked : s.inputs ≡ rank s.kinds 256
  unfolding rank
  inputs_ranked =
      inputs_are s h ∙ sym (inputs_all_counted c (card_fits s h).fits) ∙ ap (λ ks. count (λ m. eqb (get_or ks m 0) 1) 256) (sym (kinds_are s h))

  -- the nets that are inputs are places of the arrays
  pub feeds_fit : (v : List ℕ) → length v ≡ s.inputs → (length v ≤ 256) × ((j : ℕ) → get_or s.feeds j 0 < 256)
  feeds_fit v size = (
    omega (arith, size, inputs_ranked, rank_le s.kinds 256),
    λ j. subst (λ xs. get_or xs j 0 < 256) (sym (feeds_are s h)) (nets_low s.kinds 256 j (omega arith)),
  )

  -- the values that a vector gives are the card's: input j has byte j
  pub given_card : (v : List ℕ) (n : ℕ) → given s.kinds v n ≡ given_to c v n
  unfolding given given_to rank
  given_card v n =
      let kind : (m : ℕ) → is_input_kind (get_or s.kinds m 0) ≡ is_input (net_at c m) = λ m. ap (λ ks. is_input_kind (get_or ks m 0)) (kinds_are s h) ∙ inputs_laid c (card_fits s h).fits m in
      ap₂ (λ b k. cond b (is_one (get_or v k 0)) false) (kind n) (count_cong (λ m. is_input_kind (get_or s.kinds m 0)) (λ m. is_input (net_at c m)) n (λ m l. kind m))

  -- A pass along the gates leaves the rule's histories

  module _ (old new : ℕ → Bool) where
    gates_pass : (start : List ℕ) → length start ≡ 256
        → ((n : ℕ) → n < 256 → is_source (net_at c n) ≡ true → get_or start n 0 ≡ word_of 64 (value c old new n))
        → ((n : ℕ) → n < 256 → is_source (net_at c n) ≡ false → bit (get_or start n 0) 63 ≡ old n)
        → passed (tops_of start) s.types s.counts s.places start (listed (λ i. get_or s.order i 0) s.gates) ≡ histories c old new
    gates_pass start long still ends =
        same_pass start (types_are s h) (counts_are s h) (places_are s h) (order_back s h) ∙ pass_histories c (card_fits s h) h.accepted.free old new start long still ends

    -- from any words that end in the before values, where each constant has its value
    pub advance_pass : (v words : List ℕ) → length v ≡ s.inputs → length words ≡ 256 → ((n : ℕ) (k : Bool) → n < 256 → net_at c n ≡ constant k → get_or words n 0 ≡ word_of 64 (λ t. k))
        → ((n : ℕ) → given s.kinds v n ≡ new n) → ((n : ℕ) → n < 256 → bit (get_or words n 0) 63 ≡ old n)
        → advanced s.feeds s.types s.counts s.places (listed (λ i. get_or s.order i 0) s.gates) words v ≡ histories c old new
    unfolding inputs_put
    advance_pass v words size long fixed same ends =
        let fits = (card_fits s h).fits in
        let same' : (n : ℕ) → given (kinds_of c) v n ≡ new n = λ n. ap (λ ks. given ks v n) (sym (kinds_are s h)) ∙ same n in
        ap (λ ws. passed (tops_of ws) s.types s.counts s.places ws (listed (λ i. get_or s.order i 0) s.gates))
        (ap (λ fs. nets_put fs (byte_word v) (length v) words) (feeds_are s h) ∙ nets_put_lem s.kinds v words long (size ∙ inputs_ranked) ∙ ap (λ ks. inputs_put ks v words) (kinds_are s h))
        ∙ gates_pass (inputs_put (kinds_of c) v words) (length_listed _ 256) (put_still c old new fits v words same' fixed)
        (λ n l e. put_ends c old new fits v words same' n l e ∙ ends n l)

  -- a constant's value, in the arrays
  pub constant_held : (n : ℕ) (k : Bool) → n < 256 → net_at c n ≡ constant k → constant_at (get_or s.kinds n 0) (get_or s.types n 0) ≡ k
  constant_held n k l e =
      ap₂ (λ ks ts. constant_at (get_or ks n 0) (get_or ts n 0)) (kinds_are s h) (types_are s h) ∙ go (dec_lt n (length c))
    where
      fits : Fits c
      fits = (card_fits s h).fits

      go : Dec (n < length c) → constant_at (get_or (kinds_of c) n 0) (get_or (types_of c) n 0) ≡ k
      go (yes b) = ap₂ constant_at (kind_at c fits n b ∙ ap kind_of e) (type_at c fits n b ∙ ap type_of e) ∙ one_val k
      go (no b) =
          let past = net_past c n (omega arith) (not_open n (omega arith)) in
          let none : false ≡ k = cc in
          ap (λ x. constant_at x (get_or (types_of c) n 0)) (kind_past c fits n (omega arith)) ∙ none
