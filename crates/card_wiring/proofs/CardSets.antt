-- The PC-sets of a card without loops, as words along the order of its gates, and their sizes: together as many as the steps.
-- Assumes nothing.
use mathlib.Core.Path.{◌≡◌, refl, sym, ap, ◌∙◌}
use mathlib.Core.Bool.{Bool, true, false, cond, ◌&&◌}
use mathlib.Core.List.{List, map}
use mathlib.Core.Logic.{◌⊎◌, inl, inr, ⊎_elim}
use Prim.Native.Nat.{ℕ, zero, suc, ◌+◌, ◌-◌, ◌≤◌, ◌<◌}
use native.Mathlib.Omega.{arith}
use native.Mathlib.Decide.{dec_lt}
use lib.Dec.{eqb, ltb, lit<}
use lib.ListN.{length, get_or}
use borrow.Author.Tests.{eq-eqb, ne_eqb, eqb-true, lt-ltb, le-ltb, ltb-true}
use Rattle.lists.specs.Entries.{◌∈◌, some}
use Rattle.lists.specs.Listed.{listed}
use Rattle.lists.proofs.Bools.{and_both, and_make, or_either, or_later}
use Rattle.lists.proofs.Tests.{some_map, some_ext}
use Rattle.lists.proofs.Joined.{sum_on}
use Rattle.lists.proofs.Listed.{listed_at, listed_ext}
use Rattle.word.specs.Word.{val, bit, word_of, moved_up}
use Rattle.word.specs.Times.{count}
use Rattle.word.proofs.Bits.{bit_bool, bit_high}
use Rattle.word.proofs.Words.{bit_word, is_word, word_ext}
use Rattle.word.proofs.Sets.{count_cong, count_sum, count_ends}
use Rattle.rule.specs.Net.{Net, open_pin, net_at, pins, is_source, Named, Pinned}
use Rattle.rule.specs.Chain.{pc_set}
use Rattle.rule.specs.Level.{depth, Looped}
use Rattle.rule.specs.Run.{run}
use Rattle.rule.specs.Steps.{gate_order, net_steps, step_list}
use Rattle.rule.proofs.Nets.{at_open, at_net, not_open, source_pins}
use Rattle.rule.proofs.Chains.{set_start, set_next, source_set_lem}
use Rattle.rule.proofs.Depths.{level_depth, set_level}
use Rattle.rule.proofs.Runs.{run_leaves_others, run_right}
use Rattle.rule.proofs.GateOrders.{out_order, in_order, order_ready_on}
use Rattle.rule.proofs.StepLists.{net_length, list_length}
use Rattle.card_wiring.specs.Layout.{counts_of, places_of}
use Rattle.card_wiring.specs.Inner.Wires.{Fits, joined, source_set, sets_along, sizes_of}
use Rattle.card_wiring.specs.Wired.{pin_fits, set_words}
use Rattle.card_wiring.proofs.Layouts.{count_at, pins_laid}

module _ (c : List Net) where
  -- the word of a net's PC-set
  abbrev word : ℕ → ℕ
  word n = word_of 64 (pc_set c n)

  -- {0}
  source_word : (n : ℕ) → is_source (net_at c n) ≡ true → 1 ≡ word n
  source_word n e = is_word 64 (pc_set c n) 1 (lit< tt) at
    where
      at : (t : ℕ) → t < 64 → bit 1 t ≡ pc_set c n t
      at zero l = bit_bool true ∙ sym (set_start c n ∙ e)
      at (suc t) l = bit_high 1 1 (suc t) (lit< tt) (omega arith) ∙ sym (source_set_lem c n t e)

  -- "for a gate, the union over its pins, each element raised by 1"
  gate_word : (n : ℕ) → is_source (net_at c n) ≡ false → word n ≡ joined n (map word (pins c n))
  unfolding joined
  gate_word n e = word_ext 64 (pc_set c n) (moved_up false (λ t. some (λ w. bit w t) (map word (pins c n)))) at
    where
      at : (t : ℕ) → t < 64 → pc_set c n t ≡ moved_up false (λ t. some (λ w. bit w t) (map word (pins c n))) t
      at zero l = set_start c n ∙ e
      at (suc t) l =
          set_next c n t
          ∙ some_ext (λ p. pc_set c p t) (λ p. bit (word p) t) (pins c n) (λ p. sym (bit_word 64 (pc_set c p) t (omega arith)))
          ∙ sym (some_map (λ w. bit w t) word (pins c n))

  module _ (free : ¬ Looped c) where
    module _ (fit : Fits c) (pinned : Pinned c) where
      abbrev start : ℕ → ℕ
      start = source_set (counts_of c) (length c)

      -- there ahead of the gates are the card's inputs and constants, and open pins
      abbrev there : ℕ → Bool
      there n = is_source (net_at c n) && pin_fits (length c) n

      start_right : (n : ℕ) → there n ≡ true → start n ≡ word n
      start_right n e = go (or_either (ltb n (length c)) (eqb n open_pin) known.1) ∙ source_word n known.0
        where
          known : (is_source (net_at c n) ≡ true) × (pin_fits (length c) n ≡ true)
          known = and_both (is_source (net_at c n)) (pin_fits (length c) n) e

          go : (ltb n (length c) ≡ true) ⊎ (eqb n open_pin ≡ true) → start n ≡ 1
          go (inl l) =
              let few = fit.few in
              let here = ltb-true n (length c) l in
              let none : get_or (counts_of c) n 0 ≡ 0 = count_at c fit n (omega arith) ∙ ap length (source_pins (net_at c n) known.0) in
              at_net 1 (λ g. val (ltb g (length c) && eqb (get_or (counts_of c) g 0) 0)) n (not_open n (omega arith)) ∙ rw (l, none)
          go (inr o) = ap start (eqb-true n open_pin o) ∙ at_open 1 (λ g. val (ltb g (length c) && eqb (get_or (counts_of c) g 0) 0))

      -- past the card nothing is put in
      start_past : (n : ℕ) → n < 256 → length c ≤ n → start n ≡ 0
      start_past n b l = at_net 1 (λ g. val (ltb g (length c) && eqb (get_or (counts_of c) g 0) 0)) n (not_open n (omega arith)) ∙ rw (le-ltb n (length c) l)

      pub sets_laid : Named c → sets_along (counts_of c) (places_of c) (length c) (gate_order c) ≡ set_words c
      unfolding sets_along set_words
      sets_laid named =
          ap (λ ps. listed (run eqb ps joined start (gate_order c)) 256) (pins_laid c fit)
          ∙ listed_ext along (λ n. cond (ltb n (length c)) (word n) 0) 256 (λ n b. at n b (dec_lt n (length c)))
        where
          along : ℕ → ℕ
          along = run eqb (pins c) joined start (gate_order c)

          known : (n : ℕ) → n < length c → (b : Bool) → is_source (net_at c n) ≡ b → (there n ≡ true) ⊎ (n ∈ gate_order c)
          known n l true e = inl (rw (e, lt-ltb n (length c) l))
          known n l false e = inr (in_order c free pinned n e)

          reads : (n p : ℕ) → p ∈ pins c n → is_source (net_at c p) ≡ true → there p ≡ true
          reads n p m e = and_make (is_source (net_at c p)) (pin_fits (length c) p) e (⊎_elim (λ l. rw (lt-ltb p (length c) l)) (λ o. or_later (ltb p (length c)) (eqb p open_pin) (eq-eqb p open_pin o)) (named n p m))

          right : (n : ℕ) → (there n ≡ true) ⊎ (n ∈ gate_order c) → along n ≡ word n
          right n =
              run_right eqb (pins c) eqb-true (λ g. eq-eqb g g refl) joined word (λ g. is_source (net_at c g) ≡ false) gate_word
              there start (gate_order c) (λ g m. (out_order c g m).0) start_right (order_ready_on c free pinned there reads) n

          past : (n : ℕ) → n < 256 → length c ≤ n → along n ≡ 0
          past n b l =
              run_leaves_others eqb (pins c) eqb-true (λ g. eq-eqb g g refl) joined start (gate_order c) n
              (λ g m. ne_eqb n g (λ e. omega (arith, (out_order c g m).1))) ∙ start_past n b l

          at : (n : ℕ) → n < 256 → Dec (n < length c) → along n ≡ cond (ltb n (length c)) (word n) 0
          at n b (yes l) = right n (known n l (is_source (net_at c n)) refl) ∙ rw (lt-ltb n (length c) l)
          at n b (no l) = past n b (omega arith) ∙ rw (le-ltb n (length c) (omega arith))

    -- a gate has a step for each element of its set
    gate_steps : (n : ℕ) → is_source (net_at c n) ≡ false → depth c ≤ 63 → length (net_steps c (depth c) n) ≡ count (pc_set c n) 64
    gate_steps n e shallow =
        let x : suc (depth c) + (63 - depth c) ≡ 64 = omega arith in
        net_length c (depth c) n
        ∙ count_sum (pc_set c n) (depth c) (set_start c n ∙ e)
        ∙ sym (count_ends (pc_set c n) (suc (depth c)) (63 - depth c) (λ t l. set_level c free n t (omega (arith, level_depth c n))))
        ∙ ap (count (pc_set c n)) x

    pub sizes_laid : Fits c → depth c ≤ 63 → sizes_of (set_words c) (gate_order c) ≡ length (step_list c)
    unfolding sizes_of set_words
    sizes_laid fit shallow = sum_on _ (λ n. length (net_steps c (depth c) n)) (gate_order c) size ∙ sym (list_length c)
      where
        size : (n : ℕ) → n ∈ gate_order c → count (bit (get_or (listed (λ n. cond (ltb n (length c)) (word n) 0) 256) n 0)) 64 ≡ length (net_steps c (depth c) n)
        size n m =
            let o = out_order c n m in
            let few = fit.few in
            ap (λ w. count (bit w) 64) (listed_at (λ n. cond (ltb n (length c)) (word n) 0) 256 n 0 (omega (arith, o.1)) ∙ rw (lt-ltb n (length c) o.1))
            ∙ count_cong (bit (word n)) (pc_set c n) 64 (bit_word 64 (pc_set c n))
            ∙ sym (gate_steps n o.0 shallow)
