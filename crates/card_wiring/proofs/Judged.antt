-- What `wire` works out of the arrays that a card is laid out in is the judgement of the card. Assumes nothing.
use mathlib.Core.Path.{◌≡◌, refl, ap, ◌∙◌}
use mathlib.Core.Bool.{Bool, true, false, cond}
use mathlib.Core.List.{List}
use Prim.Native.Nat.{ℕ, ◌+◌, ◌≤◌, ◌<◌}
use native.Mathlib.Omega.{arith}
use lib.Dec.{ltb}
use lib.ListN.{length}
use borrow.Author.Tests.{lt-ltb, le-ltb, ltb-false}
use Rattle.lists.specs.Listed.{listed}
use Rattle.rule.specs.Net.{Net, Named, Pinned}
use Rattle.rule.specs.Level.{level, depth}
use Rattle.rule.specs.Steps.{gate_order, step_list}
use Rattle.rule.specs.declared.Refusal.{Refusal}
use Rattle.rule.specs.declared.Refusal.TheVariants.{NoSuchPin, Looped, TooDeep, TooManySteps}
use Rattle.std.specs.Prelude.{Result, Ok, Err}
use Rattle.rule.specs.Answers.{Verdict}
use Rattle.card_wiring.specs.declared.Wired.{Wired}
use Rattle.card_wiring.specs.declared.Order.{Order}
use Rattle.card_wiring.specs.Layout.{counts_of, places_of}
use Rattle.card_wiring.specs.Inner.Wires.{Fits, delay_at, all_fit, backs, highest, order_of, sets_along, sizes_of}
use Rattle.card_wiring.specs.Wired.{pins_fit, most_back, set_words, refused_wiring, passed_wiring, verdict_of, wired_of}
use Rattle.card_wiring.specs.Inner.Wired.{as_order, set_wired, level_wired, arrays_wired}
use Rattle.card_wiring.proofs.Layouts.{fits_laid, back_laid, levels_laid, depth_laid, order_laid}
use Rattle.card_wiring.proofs.Judgements.{pins_named, back_no_loop}
use Rattle.card_wiring.proofs.CardSets.{sets_laid, sizes_laid}

-- by what its tests say
pub wired_unfit : (counts places : List ℕ) (n : ℕ) → all_fit counts places n ≡ false → refused_wiring NoSuchPin ≡ arrays_wired counts places n
unfolding arrays_wired
wired_unfit counts places n e = rw e

-- the longest ways back, each gate g counted as w g, and the highest of them
pub record Counted (w : ℕ → ℕ) (counts places : List ℕ) (n : ℕ) (xs : List ℕ) (top : ℕ) : Type 0 where
  pub counted : xs ≡ backs w counts places (n + 1)
  pub highest_is : top ≡ highest xs n

-- where the pins fit, by the gates counted backwards,
module _ {counts places : List ℕ} {n : ℕ} (fit : all_fit counts places n ≡ true) {gates : List ℕ} {b : ℕ} (back : Counted (λ g. 1) counts places n gates b) where
  from_gates : let levels = backs delay_at counts places (n + 1) in
      cond (ltb n b) (refused_wiring Looped) (level_wired counts places n levels (highest levels n)) ≡ arrays_wired counts places n
  unfolding arrays_wired
  from_gates = rw (back.highest_is, back.counted, fit)

  pub wired_looped : n < b → refused_wiring Looped ≡ arrays_wired counts places n
  wired_looped l = rw (← from_gates, lt-ltb n b l)

  -- and by the levels
  module _ {levels : List ℕ} {d : ℕ} (known : Counted delay_at counts places n levels d) (free : b ≤ n) where
    from_levels : level_wired counts places n levels d ≡ arrays_wired counts places n
    from_levels = rw (← from_gates, le-ltb n b free, known.highest_is, known.counted)

    pub wired_deep : 63 < d → refused_wiring TooDeep ≡ arrays_wired counts places n
    wired_deep h = rw (← from_levels, lt-ltb 63 d h)

    pub wired_sets : d ≤ 63 → set_wired counts places n (order_of levels n d) ≡ arrays_wired counts places n
    wired_sets h = rw (← from_levels, le-ltb 63 d h)

-- What `with_sets` works out: an order of the gates, the sets along it, and their sizes, added
pub record Along (counts places : List ℕ) (n : ℕ) (order : List ℕ) (by : Order) (sets : List ℕ) (steps : ℕ) : Type 0 where
  pub ordering : by ≡ as_order order
  pub made : sets ≡ sets_along counts places n order
  pub counted : steps ≡ sizes_of sets order

module _ {counts places : List ℕ} {n : ℕ} {order : List ℕ} {by : Order} {sets : List ℕ} {steps : ℕ} (known : Along counts places n order by sets steps) where
  pub sets_refused : 4096 < steps → refused_wiring TooManySteps ≡ set_wired counts places n order
  sets_refused l = rw (lt-ltb 4096 (sizes_of (sets_along counts places n order) order) (rw (known.counted, known.made) at l))

  pub sets_passed : steps ≤ 4096 → ◌≡◌ {A = Result Wired Refusal} (Ok (record { gates = by.gates; order = by.list; sets = sets })) (set_wired counts places n order)
  sets_passed l = rw (le-ltb 4096 (sizes_of (sets_along counts places n order) order) (rw (known.counted, known.made) at l), known.ordering, known.made)

-- two judgements by one test agree where their arms do
if_true : {A : Type 0} (a b : Bool) (x y z : A) → a ≡ b → (b ≡ true → x ≡ y) → cond a x z ≡ cond b y z
if_true a true x y z e h = rw e (h refl)
if_true a false x y z e h = rw e

if_false : {A : Type 0} (a b : Bool) (x y z : A) → a ≡ b → (b ≡ false → x ≡ y) → cond a z x ≡ cond b z y
if_false a true x y z e h = rw e
if_false a false x y z e h = rw e (h refl)

module _ (c : List Net) (fit : Fits c) (pinned : Pinned c) where
  -- 7 on a card without loops that is not too deep
  steps_wired : Result Wired Refusal
  steps_wired = cond (ltb 4096 (length (step_list c))) (refused_wiring TooManySteps) (passed_wiring (gate_order c) (set_words c))

  steps_judged : Named c → most_back c ≤ length c → depth c ≤ 63 → set_wired (counts_of c) (places_of c) (length c) (gate_order c) ≡ steps_wired
  unfolding steps_wired
  steps_judged named l shallow =
      ap (λ sets. cond (ltb 4096 (sizes_of sets (gate_order c))) (refused_wiring TooManySteps) (passed_wiring (gate_order c) sets)) (sets_laid c (back_no_loop c l) fit pinned named)
      ∙ ap (λ k. cond (ltb 4096 k) (refused_wiring TooManySteps) (passed_wiring (gate_order c) (set_words c))) (sizes_laid c (back_no_loop c l) fit shallow)

  -- 6 before it,
  levels_judged : Named c → most_back c ≤ length c → (levels : List ℕ) (d : ℕ) → levels ≡ listed (level c) 256 → d ≡ depth c
      → level_wired (counts_of c) (places_of c) (length c) levels d ≡ cond (ltb 63 (depth c)) (refused_wiring TooDeep) steps_wired
  levels_judged named l levels d e q =
      rw (e, q, order_laid c fit)
      (if_false (ltb 63 (depth c)) (ltb 63 (depth c)) _ _ (refused_wiring TooDeep) refl (λ g. steps_judged named l (ltb-false 63 (depth c) g)))

  -- and 4, 5
  pub arrays_judged_lem : arrays_wired (counts_of c) (places_of c) (length c) ≡ wired_of c
  unfolding arrays_wired wired_of steps_wired
  arrays_judged_lem =
      if_true (all_fit (counts_of c) (places_of c) (length c)) (pins_fit c) _ _ (refused_wiring NoSuchPin) (fits_laid c fit) (λ e.
      if_false _ (ltb (length c) (most_back c)) _ _ (refused_wiring Looped) (ap (ltb (length c)) (back_laid c fit)) (λ f.
      levels_judged (pins_named c e) (ltb-false (length c) (most_back c) f) _ _ (levels_laid c fit)
      (ap (λ levels. highest levels (length c)) (levels_laid c fit) ∙ depth_laid c fit)))

-- a wiring that passes has the order and the sets
pub wired_passed : (c : List Net) → verdict_of (wired_of c) ≡ (Ok tt)
    → wired_of c ≡ passed_wiring (gate_order c) (set_words c)
unfolding wired_of
wired_passed c = go (pins_fit c) (ltb (length c) (most_back c)) (ltb 63 (depth c)) (ltb 4096 (length (step_list c)))
  where
    good : Result Wired Refusal
    good = passed_wiring (gate_order c) (set_words c)

    never : (r : Refusal) → ◌≡◌ {A = Verdict} (Err r) (Ok tt) → ⊥
    never r e = let z : ◌≡◌ {A = ℕ} 0 1 = cc in omega arith

    go : (a b d e : Bool)
        → verdict_of (cond a (cond b (refused_wiring Looped) (cond d (refused_wiring TooDeep)
        (cond e (refused_wiring TooManySteps) good))) (refused_wiring NoSuchPin)) ≡ (Ok tt)
        → cond a (cond b (refused_wiring Looped) (cond d (refused_wiring TooDeep)
        (cond e (refused_wiring TooManySteps) good))) (refused_wiring NoSuchPin) ≡ good
    go false b d e h = absurd (never _ h)
    go true true d e h = absurd (never _ h)
    go true false true e h = absurd (never _ h)
    go true false false true h = absurd (never _ h)
    go true false false false h = refl
