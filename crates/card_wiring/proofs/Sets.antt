-- PC-sets along an order of the gates: a gate's set from its pins' sets, one gate more, and their sizes. Assumes nothing.
use mathlib.Core.Path.{◌≡◌, refl, sym, ap, ◌∙◌}
use mathlib.Core.Bool.{Bool, true, false, ◌&&◌}
use mathlib.Core.List.{List, [], ◌∷◌, map}
use Prim.Native.Nat.{ℕ, zero, suc, ◌+◌, ◌^◌, ◌<◌}
use native.Mathlib.Omega.{arith}
use mir.Val.{bool_byte}
use lib.Dec.{eqb, ltb}
use lib.ListN.{length, get_or, take, set}
use Rattle.std.proofs.lemmas.List.{take_more}
use borrow.Author.Tests.{eq-eqb, eqb-true}
use Rattle.lists.specs.Entries.{some, sum}
use Rattle.lists.specs.Listed.{listed}
use Rattle.lists.proofs.Joined.{sum_append}
use Rattle.word.specs.Word.{val, bit, moved_up}
use Rattle.word.specs.Times.{count}
use Rattle.word.proofs.Words.{is_word}
use Rattle.rule.specs.Net.{at_pin}
use Rattle.rule.proofs.Nets.{at_open, at_net, not_open}
use Rattle.rule.proofs.Runs.{run_none}
use Rattle.card_wiring.specs.Layout.{pins_at}
use Rattle.card_wiring.specs.Inner.Wires.{Wires, all_fit, joined, source_set, sets_along, sizes_of}
use Rattle.card_wiring.proofs.Pins.{front_listed, fitting}
use Rattle.card_wiring.proofs.Passes.{pass_more}

pub moved_same : (b : Bool) (f g : ℕ → Bool) (t : ℕ) → ((s : ℕ) → f s ≡ g s) → moved_up b f t ≡ moved_up b g t
moved_same b f g zero h = refl
moved_same b f g (suc t) h = h t

-- the union of some sets, raised, is what a gate makes of them
pub raised_joined : (g all r : ℕ) (ws : List ℕ) → r < 2 ^ 64 → ((t : ℕ) → bit all t ≡ some (λ w. bit w t) ws)
    → ((t : ℕ) → t < 64 → bit r t ≡ moved_up false (bit all) t) → r ≡ joined g ws
unfolding joined
raised_joined g all r ws l u h =
    is_word 64 (moved_up false (λ t. some (λ w. bit w t) ws)) r l (λ t b. h t b ∙ moved_same false (bit all) (λ s. some (λ w. bit w s) ws) t u)

-- a bool as a number
pub byte_val : (b : Bool) → bool_byte b ≡ val b
byte_val true = refl
byte_val false = refl

-- ahead of the gates
pub source_made : (counts : List ℕ) (n g r : ℕ) → g < 256 → r ≡ val (ltb g n && eqb (get_or counts g 0) 0) → r ≡ source_set counts n g
source_made counts n g r l e = e ∙ sym (at_net 1 (λ h. val (ltb h n && eqb (get_or counts h 0) 0)) g (not_open g (omega arith)))

pub along_none : (counts places : List ℕ) (n : ℕ) → listed (source_set counts n) 256 ≡ sets_along counts places n []
unfolding sets_along
along_none counts places n =
    ap (λ s. listed s 256) (sym (run_none eqb (pins_at counts places) eqb-true (λ k. eq-eqb k k refl) joined (source_set counts n)))

-- gate i of an order, with the set r that it makes of its pins' sets
pub along_more : (counts places : List ℕ) (n : ℕ) → Wires counts places n → all_fit counts places n ≡ true → (order : List ℕ) → ((i : ℕ) → get_or order i 0 < 256)
    → (i g r : ℕ) (sets : List ℕ) → i < length order → g ≡ get_or order i 0 → sets ≡ sets_along counts places n (take i order)
    → r ≡ joined g (map (at_pin 1 (λ m. get_or sets m 0)) (pins_at counts places g)) → set sets g r ≡ sets_along counts places n (take (i + 1) order)
unfolding sets_along
along_more counts places n wires fits order below i g r sets l a b e =
    rw (front_listed order (i + 1) (omega arith))
    (pass_more (pins_at counts places) joined (source_set counts n) 1 (at_open 1 (λ h. val (ltb h n && eqb (get_or counts h 0) 0))) n wires.few (fitting counts places n wires fits)
    (λ k. get_or order k 0) i (λ j l. below j) g r sets a (rw (front_listed order i (omega arith)) at b) e)

-- sizes, one more
pub sizes_none : (sets : List ℕ) → 0 ≡ sizes_of sets []
unfolding sizes_of
sizes_none sets = refl

pub sizes_more : (sets order : List ℕ) (i : ℕ) → i < length order → sizes_of sets (take (i + 1) order) ≡ sizes_of sets (take i order) + count (bit (get_or sets (get_or order i 0) 0)) 64
unfolding sizes_of
sizes_more sets order i l =
    ap (sum (λ g. count (bit (get_or sets g 0)) 64)) (take_more order i 0 l) ∙ sum_append (λ g. count (bit (get_or sets g 0)) 64) (take i order) (get_or order i 0 ∷ []) ∙ omega arith
