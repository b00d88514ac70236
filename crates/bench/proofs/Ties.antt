-- The arrays of a session that holds a card tell of that card: what a step reads, which variables are there while an order is judged, and
-- the judgement of an order. Assumes nothing.
use mathlib.Core.Path.{◌≡◌, refl, sym, ap, ap₂, ◌∙◌, subst}
use mathlib.Core.Bool.{Bool, true, false, cond, ◌&&◌, ◌||◌}
use mathlib.Core.List.Memᴰ
use mathlib.Core.List.{List, [], ◌∷◌, map}
use mathlib.Core.Logic.{◌⊎◌, inl, inr}
use Prim.Native.Nat.{ℕ, zero, suc, ◌<◌}
use native.Mathlib.Omega.{arith}
use native.Mathlib.Decide.{ℕ_discrete}
use lib.Dec.{eqb}
use lib.ListN.{length, get_or, set, replicate, length-set, length-replicate, get_or-replicate}
use lib.Seq.{get_or-set_same, get_or-set_other}
use borrow.Author.Tests.{eq-eqb, ne_eqb}
use Rattle.lists.specs.Entries.{◌∈◌, every}
use Rattle.lists.proofs.Bools.{or_later, not_both}
use Rattle.lists.proofs.Tests.{map_on, out_map}
use Rattle.lists.proofs.Order.{at_in}
use Rattle.word.specs.Word.{bit, word_of}
use Rattle.word.proofs.Bits.{bit_zero, bit_suc, bit_none}
use Rattle.word.proofs.Words.{bit_word}
use Rattle.rule.specs.Net.{Net, net_at, is_source, open_pin}
use Rattle.rule.specs.Run.{ready, mark}
use Rattle.rule.specs.Steps.{Step, same_step, IsStep, read_at, step_reads, step_list, no_step, step_at}
use Rattle.rule.specs.declared.Refusal.TheVariants.{OrderLength, OrderEntry, OrderEarly}
use Rattle.rule.proofs.Nets.{not_open, net_open}
use Rattle.rule.proofs.PinReads.{read_named, read_below, read_pin}
use Rattle.rule.proofs.StepRuns.{ahead, read_there}
use Rattle.rule.proofs.StepLists.{list_only}
use Rattle.std.specs.Prelude.{Ok, Err}
use Rattle.rule.specs.Answers.{Verdict}
use Rattle.card.specs.declared.Session.{Session}
use Rattle.card.specs.Session.{card_of}
use Rattle.card.specs.Held.{HasCard}
use Rattle.card.proofs.Kept.{card_fits}
use Rattle.step_vars.proofs.Holding.{held_net, held_open}
use Rattle.step_orders.specs.Orders.{entries_fit, steps_of, order_ready, order_judged}
use Rattle.step_orders.specs.Inner.Ready.{order_steps, done_of, mark_in, ready_in, judged_in}
use Rattle.step_orders.proofs.Judging.{entries_of}
use Rattle.step_list.proofs.Cards.{step_low}
use Rattle.step_run.proofs.Words.{reads_same}
use Rattle.bench.specs.Inner.Taken.{Naming}

-- Bits

-- a word that has 1 has time 0 alone
one_bit : (t : ℕ) → bit 1 t ≡ eqb t 0
one_bit zero = bit_zero 1
one_bit (suc t) = bit_suc 1 t ∙ bit_none t ∙ sym (ne_eqb (suc t) 0 (λ e. omega arith))

cond_or : (a b : Bool) → cond a true b ≡ a || b
cond_or true b = refl
cond_or false b = refl

every_on : {A : Type 0} (f g : A → Bool) (xs : List A) → ((x : A) → x ∈ xs → f x ≡ g x) → every f xs ≡ every g xs
every_on f g [] h = refl
every_on f g (x ∷ xs) h = ap₂ ◌&&◌ (h x (Memᴰ.head refl)) (every_on f g xs (λ y m. h y (Memᴰ.tail m)))

mark_long : (words : List ℕ) (k : Step) → length (mark_in words k) ≡ length words
unfolding mark_in
mark_long words k = length-set words k.net _

-- Steps that two arrays name

pub named_steps : (ks : List Step) (nets times : List ℕ) → Naming ks nets times → (order : List ℕ) → ((e : ℕ) → e ∈ order → e < length ks) → order_steps nets times order ≡ map (step_at ks) order
named_steps ks nets times n order below =
    map_on (λ e. record { net = get_or nets e 0; time = get_or times e 0 }) (step_at ks) order (λ e m. λ i. record { net = n.net_is e (below e m) i; time = n.time_is e (below e m) i })

-- a step of the arrays' range
abbrev InRange : Step → Type 0
InRange k = (k.net < 256) × (0 < k.time) × (k.time < 64)

module _ (s : Session) (h : HasCard s) where
  abbrev c : List Net
  c = card_of s

  open_source : is_source (net_at c open_pin) ≡ true
  open_source = ap is_source (net_open c)

  -- Which variables are there

  -- a variable that a step can read: it has a bit, or is that of an open pin, which is there ahead of all steps
  abbrev Readable : Step → Type 0
  Readable j = ((j.net < 256) × (j.time < 64)) ⊎ ((j.net ≡ open_pin) × (ahead j ≡ true))

  read_readable : (k : Step) (p : ℕ) → InRange k → (p < length c) ⊎ (p ≡ open_pin) → (ahead (read_at c k.time p) ≡ true) ⊎ IsStep c (read_at c k.time p) → Readable (read_at c k.time p)
  read_readable k p r (inl q) w =
      let few = (card_fits s h).fits.few in
      inl (omega (arith, ap (λ x. x.net) (read_named c k.time p)), omega (arith, read_below c k.time p r.1))
  read_readable k p r (inr q) (inl a) = inr (ap (λ x. x.net) (read_named c k.time p) ∙ q, a)
  read_readable k p r (inr q) (inr t) =
      let pin = ap (λ x. x.net) (read_named c k.time p) ∙ q in
      absurd (not_both (is_source (net_at c (read_at c k.time p).net)) (ap (λ x. is_source (net_at c x)) pin ∙ open_source) t.gated)

  reads_readable : (k j : Step) → InRange k → j ∈ step_reads c k → Readable j
  reads_readable k j r m =
      let o = read_pin c k j m in
      subst Readable (sym o.2) (read_readable k o.0 r (h.accepted.named k.net o.0 o.1) (read_there c k.time o.0 r.1))

  -- the words tell of these variables what a test tells
  abbrev Agree : List ℕ → (Step → Bool) → Type 0
  Agree words there = (j : Step) → Readable j → done_of words j ≡ there j

  done_bit : (words : List ℕ) (j : Step) → j.net < 256 → done_of words j ≡ bit (get_or words j.net 0) j.time
  done_bit words j l = held_net true words j (not_open j.net (omega arith))

  done_loose : (words : List ℕ) (j : Step) → j.net ≡ open_pin → done_of words j ≡ true
  done_loose words j e = held_open true words j e

  -- ahead of all steps
  agree_start : (words : List ℕ) → ((n : ℕ) → n < 256 → get_or words n 0 ≡ 1) → Agree words ahead
  agree_start words ones j (inl r) = done_bit words j r.0 ∙ ap (λ w. bit w j.time) (ones j.net r.0) ∙ one_bit j.time
  agree_start words ones j (inr r) = done_loose words j r.0 ∙ sym r.1

  -- and with one step more
  agree_mark : (words : List ℕ) (there : Step → Bool) (k : Step) → length words ≡ 256 → InRange k → Agree words there → Agree (mark_in words k) (mark same_step (step_reads c) there k)
  unfolding mark_in
  agree_mark words there k long r a j (inl q) = done_bit (mark_in words k) j q.0 ∙ go (ℕ_discrete j.net k.net)
    where
      word : ℕ
      word = word_of 64 (λ t. cond (eqb t k.time) true (bit (get_or words k.net 0) t))

      was : bit (get_or words j.net 0) j.time ≡ there j
      was = sym (done_bit words j q.0) ∙ a j (inl q)

      go : Dec (j.net ≡ k.net) → bit (get_or (set words k.net word) j.net 0) j.time ≡ mark same_step (step_reads c) there k j
      go (yes e) =
          ap (λ n. bit (get_or (set words k.net word) n 0) j.time) e
          ∙ ap (λ w. bit w j.time) (get_or-set_same words k.net word 0 (omega arith))
          ∙ bit_word 64 (λ t. cond (eqb t k.time) true (bit (get_or words k.net 0) t)) j.time q.1
          ∙ cond_or (eqb j.time k.time) (bit (get_or words k.net 0) j.time)
          ∙ ap (λ n. eqb j.time k.time || bit (get_or words n 0) j.time) (sym e)
          ∙ ap₂ (λ x b. x && eqb j.time k.time || b) (sym (eq-eqb j.net k.net e)) was
      go (no e) =
          ap (λ w. bit w j.time) (get_or-set_other words k.net j.net word 0 e) ∙ was
          ∙ ap (λ x. x && eqb j.time k.time || there j) (sym (ne_eqb j.net k.net e))
  agree_mark words there k long r a j (inr q) =
      done_loose (mark_in words k) j q.0 ∙ sym (or_later (same_step j k) (there j) (sym (a j (inr q)) ∙ done_loose words j q.0))

  ready_are : (ks : List Step) (words : List ℕ) (there : Step → Bool) → ((k : Step) → k ∈ ks → IsStep c k) → length words ≡ 256 → Agree words there
      → ready_in s.counts s.places s.sets words ks ≡ ready same_step (step_reads c) there ks
  unfolding ready_in ready
  ready_are [] words there r long a = refl
  ready_are (k ∷ ks) words there r long a =
      let i = r k (Memᴰ.head refl) in
      let rk = step_low s h k i in
      ap₂ ◌&&◌
      (ap (every (done_of words)) (reads_same s h k i) ∙ every_on (done_of words) there (step_reads c k) (λ j m. a j (reads_readable k j rk m)))
      (ready_are ks (mark_in words k) (mark same_step (step_reads c) there k) (λ j m. r j (Memᴰ.tail m)) (mark_long words k ∙ long) (agree_mark words there k long rk a))

  -- The judgement of an order

  pub judged_is : (nets times order : List ℕ) → Naming (step_list c) nets times
      → judged_in s.counts s.places s.sets nets times (length (step_list c)) order ≡ order_judged c order
  unfolding judged_in order_judged order_ready
  judged_is nets times order n = ap (λ v. cond (eqb (length order) (length (step_list c))) v (Err OrderLength)) (go (entries_fit (length (step_list c)) order) refl)
    where
      go : (b : Bool) → entries_fit (length (step_list c)) order ≡ b
          → ◌≡◌ {A = Verdict}
          (cond b (cond (ready_in s.counts s.places s.sets (replicate 256 1) (order_steps nets times order)) (Ok tt) (Err OrderEarly)) (Err OrderEntry))
          (cond b (cond (ready same_step (step_reads c) ahead (steps_of c order)) (Ok tt) (Err OrderEarly)) (Err OrderEntry))
      go false e = refl
      go true e =
          let below = (entries_of (length (step_list c)) order e).0 in
          ap {B = Verdict} (λ b. cond b (Ok tt) (Err OrderEarly))
          (ap (ready_in s.counts s.places s.sets (replicate 256 1)) (named_steps (step_list c) nets times n order below)
          ∙ ready_are (steps_of c order) (replicate 256 1) ahead (λ k m. let o = out_map (step_at (step_list c)) order k m in subst (IsStep c) (sym o.2) (list_only c _ (at_in (step_list c) o.0 no_step (below o.0 o.1))))
          (length-replicate {A = ℕ} 256 1) (agree_start (replicate 256 1) (λ n l. get_or-replicate {A = ℕ} 256 n 1 0 l)))
