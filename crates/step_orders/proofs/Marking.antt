-- Which variables are there, kept as words: what a gate's pins find, and one step of an order more. Assumes nothing.
use mathlib.Core.Path.{◌≡◌, sym, ap, ap₂, ◌∙◌}
use mathlib.Core.Bool.{Bool, true, false, cond, ◌&&◌}
use mathlib.Core.List.{List, ◌∷◌, map}
use Prim.Native.Nat.{ℕ, suc, ◌+◌, ◌^◌, ◌≤◌, ◌<◌}
use native.Mathlib.Numerals.{add-one}
use lib.Dec.{eqb}
use lib.ListN.{length, get_or, set, drop, replicate, drop_of_length-le}
use lib.Seq.{drop-cons}
use borrow.Author.Tests.{eq-eqb, ne_eqb}
use Rattle.std.specs.List.{list_all}
use Rattle.std.proofs.lemmas.List.Folds.{list_all-map}
use Rattle.card_wiring.specs.Layout.{pins_at}
use Rattle.lists.proofs.Tests.{every_is}
use Rattle.lists.specs.Entries.{every}
use Rattle.lists.proofs.Order.{at_in}
use Rattle.word.specs.Word.{bit}
use Rattle.word.proofs.Words.{is_word}
use Rattle.rule.specs.Steps.{Step}
use Rattle.rule.specs.declared.Refusal.TheVariants.{OrderLength, OrderEntry, OrderEarly}
use Rattle.std.specs.Prelude.{Ok, Err}
use Rattle.step_vars.specs.Variables.{read_in, reads_in}
use Rattle.step_orders.specs.Orders.{entries_fit}
use Rattle.step_orders.specs.Inner.Ready.{StepEntry, order_steps, done_of, mark_in, ready_in, judged_in}
use Rattle.step_orders.proofs.Judging.{entries_of}

-- A gate's pins

module _ (done sets : List ℕ) (t : ℕ) where
  abbrev pub pin_done : ℕ → Bool
  pin_done p = done_of done (read_in sets t p)

-- the pins one after another find what they read
pub pins_done : (done counts places sets : List ℕ) (g t : ℕ)
    → list_all (pin_done done sets t) (pins_at counts places g) ≡ every (done_of done) (reads_in counts places sets (record { net = g; time = t }))
pins_done done counts places sets g t =
    sym (list_all-map (done_of done) (read_in sets t) (pins_at counts places g)) ∙ every_is (done_of done) (map (read_in sets t) (pins_at counts places g))

-- An order

module _ (counts places sets nets times order words : List ℕ) (i g t : ℕ) (l : i < length order)
    (net_is : g ≡ get_or nets (get_or order i 0) 0) (time_is : t ≡ get_or times (get_or order i 0) 0) where
  abbrev k : Step
  k = record { net = g; time = t }

  abbrev left : ℕ → List Step
  left j = order_steps nets times (drop j order)

  next : left i ≡ k ∷ left (suc i)
  next = ap (order_steps nets times) (drop-cons order i 0 l) ∙ λ j. record { net = sym net_is j; time = sym time_is j } ∷ left (suc i)

  pub ready_stop : every (done_of words) (reads_in counts places sets k) ≡ false → ready_in counts places sets words (left i) ≡ false
  unfolding ready_in
  ready_stop h = ap (ready_in counts places sets words) next ∙ ap (λ b. b && ready_in counts places sets (mark_in words k) (left (suc i))) h

  pub ready_turn : (r : ℕ) → every (done_of words) (reads_in counts places sets k) ≡ true → r < 2 ^ 64
      → ((u : ℕ) → u < 64 → bit r u ≡ cond (eqb u t) true (bit (get_or words g 0) u))
      → ready_in counts places sets words (left i) ≡ ready_in counts places sets (set words g r) (left (i + 1))
  unfolding ready_in mark_in
  ready_turn r h small put =
      ap (ready_in counts places sets words) next
      ∙ ap (λ b. b && ready_in counts places sets (mark_in words k) (left (suc i))) h
      ∙ ap₂ (λ w j. ready_in counts places sets (set words g w) (left j)) (sym (is_word 64 (λ u. cond (eqb u t) true (bit (get_or words g 0) u)) r small put)) (sym (add-one i))

pub ready_end : (counts places sets nets times order words : List ℕ) (i : ℕ) → length order ≤ i → ready_in counts places sets words (order_steps nets times (drop i order)) ≡ true
unfolding ready_in
ready_end counts places sets nets times order words i l = rw (drop_of_length-le order l)

-- The judgement from arrays

module _ (counts places sets nets times : List ℕ) (total : ℕ) (order : List ℕ) where
  abbrev is_ready : Bool
  is_ready = ready_in counts places sets (replicate 256 1) (order_steps nets times order)

  pub judged_length : ¬ (length order ≡ total) → Err OrderLength ≡ judged_in counts places sets nets times total order
  unfolding judged_in
  judged_length e = rw (ne_eqb (length order) total e)

  pub judged_entry : length order ≡ total → entries_fit total order ≡ false → Err OrderEntry ≡ judged_in counts places sets nets times total order
  unfolding judged_in
  judged_entry e f = rw (eq-eqb (length order) total e, f)

  pub judged_ready : length order ≡ total → entries_fit total order ≡ true → (b : Bool) → is_ready ≡ b → cond b (Ok tt) (Err OrderEarly) ≡ judged_in counts places sets nets times total order
  unfolding judged_in
  judged_ready e f b r = rw (eq-eqb (length order) total e, f) (ap (λ x. cond x (Ok tt) (Err OrderEarly)) (sym r))

  -- every entry of an order that fits names a step
  pub entry_fits : entries_fit total order ≡ true → ((e : ℕ) → e < total → StepEntry nets times e) → (i : ℕ) → i < length order → StepEntry nets times (get_or order i 0)
  entry_fits f each i l = each (get_or order i 0) ((entries_of total order f).0 (get_or order i 0) (at_in order i 0 l))
