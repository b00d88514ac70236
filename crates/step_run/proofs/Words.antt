-- The run on words is the run of a card's steps: on the variables that the words hold, each step of the card does what it does. Assumes
-- nothing.
use mathlib.Core.Path.{◌≡◌, refl, sym, ap, ◌∙◌, subst}
use mathlib.Core.Bool.{Bool, false, cond}
use mathlib.Core.List.Memᴰ
use mathlib.Core.List.{List, [], ◌∷◌, map}
use mathlib.Core.Logic.{◌⊎◌, inl, inr, ⊎_elim}
use Prim.Native.Nat.{ℕ, zero, suc, ◌+◌, ◌≤◌, ◌<◌}
use native.Mathlib.Omega.{arith}
use native.Mathlib.Decide.{dec_lt}
use lib.Dec.{lit<}
use lib.ListN.{length, get_or}
use borrow.Author.Tests.{ne_eqb}
use Rattle.lists.specs.Entries.{◌∈◌}
use Rattle.lists.proofs.Tests.{map_on}
use Rattle.lists.proofs.Listed.{listed_at}
use Rattle.word.specs.Word.{bit, word_of}
use Rattle.word.specs.Times.{greatest, no_time, zero_in}
use Rattle.word.proofs.Bits.{bit_none, bit_high}
use Rattle.word.proofs.Words.{bit_word}
use Rattle.word.proofs.Sets.{greatest_cong}
use Rattle.gate.specs.Gate.{gate as gate_fn}
use Rattle.rule.specs.Net.{Net, open_pin, open_value, at_pin, net_at, pins, is_source}
use Rattle.rule.specs.Chain.{pc_set}
use Rattle.rule.specs.Run.{made, step, run}
use Rattle.rule.specs.Steps.{Step, same_step, IsStep, read_at, step_reads, step_fn}
use Rattle.rule.proofs.PinReads.{read_named, read_below, read_pin, reads_by_pin}
use Rattle.rule.proofs.Nets.{at_open, at_net, not_open, net_open, past_source}
use Rattle.rule.proofs.Chains.{source_set_lem}
use Rattle.card_wiring.proofs.Layouts.{gate_fn_lem}
use Rattle.card.specs.declared.Session.{Session}
use Rattle.card.specs.Session.{card_of}
use Rattle.card.specs.Held.{HasCard}
use Rattle.card.proofs.Kept.{card_fits, card_pins, card_sets, past_sets}
use Rattle.session.proofs.Held.{gate_type}
use Rattle.step_vars.specs.Variables.{vars_of, words_of, read_in, reads_in, fn_in, step_in}
use Rattle.step_vars.proofs.Stores.{var_net}
use Rattle.step_vars.proofs.Holding.{held_open}
use Rattle.step_list.proofs.Cards.{step_low}
use Rattle.step_run.specs.Runs.{Ran, ran_from}

-- a variable that the words hold, or an open pin's
abbrev pub Kept : Step → Type 0
Kept j = ((j.net < 256) ⊎ (j.net ≡ open_pin)) × (j.time < 64)

open_var : (words : List ℕ) (t : ℕ) → vars_of words (record { net = open_pin; time = t }) ≡ open_value
open_var words t = held_open open_value words (record { net = open_pin; time = t }) refl

word_held : (f : Step → Bool) (n : ℕ) → n < 256 → get_or (words_of f) n 0 ≡ word_of 64 (λ t. f (record { net = n; time = t }))
unfolding words_of
word_held f n l = listed_at (λ n. word_of 64 (λ t. f (record { net = n; time = t }))) 256 n 0 l

-- the words of some variables hold them
words_hold : (f : Step → Bool) → ((t : ℕ) → f (record { net = open_pin; time = t }) ≡ open_value) → (j : Step) → Kept j → vars_of (words_of f) j ≡ f j
words_hold f o j (inl l, b) =
    var_net (words_of f) j.net j.time l
    ∙ ap (λ w. bit w j.time) (word_held f j.net l)
    ∙ bit_word 64 (λ t. f (record { net = j.net; time = t })) j.time b
words_hold f o j (inr e, b) =
    ap (λ n. vars_of (words_of f) (record { net = n; time = j.time })) e
    ∙ open_var (words_of f) j.time
    ∙ sym (o j.time) ∙ ap (λ n. f (record { net = n; time = j.time })) (sym e)

module _ (s : Session) (h : HasCard s) where
  abbrev c : List Net
  c = card_of s

  abbrev reads : Step → List Step
  reads = reads_in s.counts s.places s.sets

  abbrev fn : Step → List Bool → Bool
  fn = fn_in s.types

  named : (n p : ℕ) → p ∈ pins c n → (p < 256) ⊎ (p ≡ open_pin)
  named n p m = let few = (card_fits s h).fits.few in ⊎_elim (λ l. inl (omega arith)) inr (h.accepted.named n p m)

  -- the words have the PC-sets, with 0 inserted: past the card there is nothing else
  set_in : (n u : ℕ) → n < 256 → u < 64 → zero_in (bit (get_or s.sets n 0)) u ≡ zero_in (pc_set c n) u
  set_in n zero b l = refl
  set_in n (suc u) b l = go (dec_lt n (length c))
    where
      go : Dec (n < length c) → bit (get_or s.sets n 0) (suc u) ≡ pc_set c n (suc u)
      go (yes q) = ap (λ w. bit w (suc u)) (card_sets s h n q) ∙ bit_word 64 (pc_set c n) (suc u) l
      go (no q) = ap (λ w. bit w (suc u)) (past_sets s h n b (omega arith)) ∙ bit_none (suc u) ∙ sym (source_set_lem c n u (past_source c n (omega arith)))

  pub set_same : (n t : ℕ) → n < 256 → t ≤ 64 → greatest (zero_in (bit (get_or s.sets n 0))) t no_time ≡ greatest (zero_in (pc_set c n)) t no_time
  set_same n t l b =
      greatest_cong (zero_in (bit (get_or s.sets n 0))) (zero_in (pc_set c n)) t no_time
      (λ u m. set_in n u l (omega arith))

  open_set : (t : ℕ) → greatest (zero_in (bit 1)) t no_time ≡ greatest (zero_in (pc_set c open_pin)) t no_time
  open_set t = greatest_cong (zero_in (bit 1)) (zero_in (pc_set c open_pin)) t no_time (λ u m. at u)
    where
      at : (u : ℕ) → zero_in (bit 1) u ≡ zero_in (pc_set c open_pin) u
      at zero = refl
      at (suc u) = bit_high 1 1 (suc u) (lit< tt) (omega arith) ∙ sym (source_set_lem c open_pin u (ap is_source (net_open c)))

  read_same : (t p : ℕ) → t ≤ 64 → (p < 256) ⊎ (p ≡ open_pin) → read_in s.sets t p ≡ read_at c t p
  unfolding read_in
  read_same t p b (inl l) =
      ap (λ w. record { net = p; time = greatest (zero_in (bit w)) t no_time }) (at_net 1 (λ n. get_or s.sets n 0) p (not_open p (omega arith)))
      ∙ ap (λ u. record { net = p; time = u }) (set_same p t l b) ∙ sym (read_named c t p)
  read_same t p b (inr e) =
      ap (λ q. record { net = q; time = greatest (zero_in (bit (at_pin 1 (λ n. get_or s.sets n 0) q))) t no_time }) e
      ∙ ap (λ w. record { net = open_pin; time = greatest (zero_in (bit w)) t no_time }) (at_open 1 (λ n. get_or s.sets n 0))
      ∙ ap (λ u. record { net = open_pin; time = u }) (open_set t)
      ∙ ap (λ q. record { net = q; time = greatest (zero_in (pc_set c q)) t no_time }) (sym e) ∙ sym (read_named c t p)

  module _ (k : Step) (i : IsStep c k) where
    pub reads_same : reads k ≡ step_reads c k
    reads_same =
        ap (λ ps. map (read_in s.sets k.time) (ps k.net)) (card_pins s h)
        ∙ reads_by_pin c k (read_in s.sets k.time) (λ p m. read_same k.time p (omega (arith, (step_low s h k i).2)) (named k.net p m))

    fn_same : (vs : List Bool) → fn k vs ≡ step_fn c k vs
    unfolding step_fn
    fn_same vs = ap (λ ty. gate_fn ty vs) (gate_type s h k.net i.gated) ∙ sym (gate_fn_lem (net_at c k.net) false vs i.gated)

    -- what a step reads is kept
    read_kept : (j : Step) → j ∈ step_reads c k → Kept j
    read_kept j m =
        let r = read_pin c k j m in
        let low = step_low s h k i in
        let en : j.net ≡ r.0 = ap (λ x. x.net) (r.2 ∙ read_named c k.time r.0) in
        let et = ap (λ x. x.time) r.2 in
        (subst (λ n. (n < 256) ⊎ (n ≡ open_pin)) (sym en) (named k.net r.0 r.1), omega (arith, et, read_below c k.time r.0 low.1, low.2))

    module _ (words : List ℕ) (f : Step → Bool) (same : (j : Step) → Kept j → vars_of words j ≡ f j) where
      pub made_same : made same_step reads fn (vars_of words) k ≡ made same_step (step_reads c) (step_fn c) f k
      unfolding made
      made_same =
          fn_same (map (vars_of words) (reads k))
          ∙ ap (λ ks. step_fn c k (map (vars_of words) ks)) reads_same
          ∙ ap (step_fn c k) (map_on (vars_of words) f (step_reads c k) (λ j m. same j (read_kept j m)))

      other : (t : ℕ) → same_step (record { net = open_pin; time = t }) k ≡ false
      other t = rw (ne_eqb open_pin k.net (λ e. not_open k.net (omega (arith, (step_low s h k i).0)) (sym e)))

      step_same : (j : Step) → Kept j → vars_of (step_in s.types s.counts s.places s.sets words k) j ≡ step same_step (step_reads c) (step_fn c) f k j
      unfolding step_in step
      step_same j kept =
          words_hold (step same_step reads fn (vars_of words) k)
          (λ t. ap (λ b. cond b (made same_step reads fn (vars_of words) k) (vars_of words (record { net = open_pin; time = t }))) (other t) ∙ open_var words t) j kept
          ∙ ap (λ x. cond (same_step j k) x (vars_of words j)) made_same
          ∙ ap (cond (same_step j k) (made same_step (step_reads c) (step_fn c) f k)) (same j kept)

  -- steps one after another
  pub run_same : (r : Ran) (f : Step → Bool) → ((j : Step) → Kept j → vars_of r.words j ≡ f j) → (ks : List Step) → ((k : Step) → k ∈ ks → IsStep c k)
      → (j : Step) → Kept j → vars_of (ran_from s.types s.counts s.places s.sets r ks).words j ≡ run same_step (step_reads c) (step_fn c) f ks j
  unfolding run
  run_same r f same [] all j kept = same j kept
  run_same r f same (k ∷ ks) all j kept =
      run_same (record { words = step_in s.types s.counts s.places s.sets r.words k; count = r.count + 1 }) (step same_step (step_reads c) (step_fn c) f k)
      (step_same k (all k (Memᴰ.head refl)) r.words f same) ks (λ q m. all q (Memᴰ.tail m)) j kept
