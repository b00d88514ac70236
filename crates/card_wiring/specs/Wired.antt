-- The judgement of a card's wiring, 4, 5, 6, 7 in this order, and what is kept of a card that passes: the order of its gates and the
-- PC-sets. Assumes nothing.
use Rattle.std.specs.Prelude.{Bool, cond, ◌||◌, List, map, ℕ, ◌+◌, ltb, eqb, length, Result, Ok, Err}
use Rattle.lists.specs.Entries.{every, from}
use Rattle.lists.specs.Listed.{listed}
use Rattle.word.specs.Word.{word_of}
use Rattle.rule.specs.Net.{Net, pins, open_pin}
use Rattle.rule.specs.Chain.{pc_set}
use Rattle.rule.specs.Level.{most, gates_back, depth}
use Rattle.rule.specs.Steps.{gate_order, step_list}
use Rattle.rule.specs.declared.Refusal.{Refusal}
use Rattle.rule.specs.declared.Refusal.TheVariants.{NoSuchPin, Looped, TooDeep, TooManySteps}
use Rattle.card_wiring.specs.Layout.{padded}
use Rattle.rule.specs.Answers.{Verdict}
use Rattle.card_wiring.specs.declared.Wired.{Wired}

-- a pin names one of n nets, or is open
abbrev pub pin_fits : ℕ → ℕ → Bool
pin_fits n p = ltb p n || eqb p open_pin

-- every pin does
unfoldable pub pins_fit : List Net → Bool
pins_fit c = every (λ g. every (pin_fits (length c)) (pins c g)) (from 0 (length c))

-- the most gates counted backwards from any net, at most one more than there are nets
unfoldable pub most_back : List Net → ℕ
most_back c = most (map (gates_back c (length c + 1)) (from 0 (length c)))

-- the PC-sets as words: bit t of a net's word says that t is in its set. Past the card the array is cleared; open pins are no entry of it
unfoldable pub set_words : List Net → List ℕ
set_words c = listed (λ n. cond (ltb n (length c)) (word_of 64 (pc_set c n)) 0) 256

abbrev pub refused_wiring : Refusal → Result Wired Refusal
refused_wiring r = Err r

-- a card that passes, with the order of its gates and the PC-sets
abbrev pub passed_wiring : List ℕ → List ℕ → Result Wired Refusal
passed_wiring order sets = Ok (record { gates = length order; order = padded order; sets = sets })

-- whether a wiring passes, without what is kept of it
abbrev pub verdict_of : Result Wired Refusal → Verdict
verdict_of (Ok kept) = Ok tt
verdict_of (Err r) = Err r

-- 4, 5, 6, 7; then the gates by level and net, and the PC-sets
unfoldable pub wired_of : List Net → Result Wired Refusal
wired_of c =
    cond (pins_fit c)
    (cond (ltb (length c) (most_back c)) (refused_wiring Looped)
    (cond (ltb 63 (depth c)) (refused_wiring TooDeep)
    (cond (ltb 4096 (length (step_list c))) (refused_wiring TooManySteps) (passed_wiring (gate_order c) (set_words c)))))
    (refused_wiring NoSuchPin)
