-- What the empty session and one just loaded say of themselves, and that another rest is of the same card. Assumes nothing.
use mathlib.Core.Path.{◌≡◌, refl}
use mathlib.Core.Bool.{Bool, true, false}
use mathlib.Core.List.{List}
use Prim.Native.Nat.{ℕ, ◌≤◌}
use native.Mathlib.Omega.{arith}
use lib.ListN.{length}
use Rattle.word.proofs.Sets.{count_le}
use Rattle.rule.specs.Net.{Net, net_at, is_input}
use Rattle.rule.specs.Steps.{gate_order}
use Rattle.card.specs.declared.Session.{Session}
use Rattle.card.specs.Session.{none, inputs_of, session_of, card_of, resting}
use Rattle.card.specs.Allowed.{Accepted}

pub none_loaded : none.loaded ≡ false
unfolding none
none_loaded = refl

pub none_rested : none.rested ≡ false
unfolding none
none_rested = refl

-- "A loaded card replaces the old one and is not yet rested"
pub taken_loaded : (c : List Net) → (session_of c).loaded ≡ true
unfolding session_of
taken_loaded c = refl

pub taken_unrested : (c : List Net) → (session_of c).rested ≡ false
unfolding session_of
taken_unrested c = refl

-- how many inputs and gates it has
pub taken_sizes : (c : List Net) → ((session_of c).inputs ≡ inputs_of c) × ((session_of c).gates ≡ length (gate_order c))
unfolding session_of
taken_sizes c = (refl, refl)

-- a card that was taken has at most 256 inputs
pub inputs_few : (c : List Net) → Accepted c → (session_of c).inputs ≤ 256
unfolding session_of inputs_of
inputs_few c a = omega (arith, count_le (λ n. is_input (net_at c n)) (length c), a.legible.few)

-- another rest is of the same card
pub resting_card : (s : Session) (rested : Bool) (before : List Bool) (words : List ℕ) → card_of (resting s rested before words) ≡ card_of s
unfolding card_of
resting_card s rested before words = refl
