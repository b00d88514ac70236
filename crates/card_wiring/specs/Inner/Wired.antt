-- Inner: cited by contracts between functions alone, and by laws. The judgement of a card's wiring from any arrays. Of a card that is laid out there it is
-- the card's: `arrays_judged_lem` (card_wiring/proofs/Judged.antt). Assumes nothing.
use Rattle.std.specs.Prelude.{Bool, true, false, cond, List, ℕ, ◌+◌, ltb, length, set, Result}
use Rattle.rule.specs.declared.Refusal.{Refusal}
use Rattle.rule.specs.declared.Refusal.TheVariants.{NoSuchPin, Looped, TooDeep, TooManySteps}
use Rattle.card_wiring.specs.Layout.{padded}
use Rattle.card_wiring.specs.Inner.Wires.{delay_at, all_fit, backs, highest, order_of, sets_along, sizes_of}
use Rattle.card_wiring.specs.declared.Wired.{Wired}
use Rattle.card_wiring.specs.declared.Order.{Order}
use Rattle.card_wiring.specs.Wired.{passed_wiring, refused_wiring}

-- a list of gates as an order
abbrev pub as_order : List ℕ → Order
as_order xs = record { gates = length xs; list = padded xs }

-- net g at the end of an order, or not
abbrev pub with_gate : Order → Bool → ℕ → Order
with_gate order true g = record { gates = order.gates + 1; list = set order.list order.gates g }
with_gate order false g = order

-- 7, or the sets along an order
abbrev pub set_wired : List ℕ → List ℕ → ℕ → List ℕ → Result Wired Refusal
set_wired counts places n order =
    let sets = sets_along counts places n order in
    cond (ltb 4096 (sizes_of sets order)) (refused_wiring TooManySteps) (passed_wiring order sets)

-- 6, 7, from the levels on, of which d is the highest
abbrev pub level_wired : List ℕ → List ℕ → ℕ → List ℕ → ℕ → Result Wired Refusal
level_wired counts places n levels d = cond (ltb 63 d) (refused_wiring TooDeep) (set_wired counts places n (order_of levels n d))

-- 4, 5, 6, 7: loops are found by counting gates, whatever their delays, and the levels are ways back by delays
unfoldable pub arrays_wired : List ℕ → List ℕ → ℕ → Result Wired Refusal
arrays_wired counts places n =
    let gates = backs (λ g. 1) counts places (n + 1) in
    let levels = backs delay_at counts places (n + 1) in
    cond (all_fit counts places n)
    (cond (ltb n (highest gates n)) (refused_wiring Looped) (level_wired counts places n levels (highest levels n)))
    (refused_wiring NoSuchPin)
