-- What rest and a vector leave in a session, by the rule: a rest is the one settled state, its history flat; a vector's history is the
-- rule's from the last one's end, with every net settled from its level on. Assumes nothing.
use mathlib.Core.Path.{◌≡◌, sym, ap, ap₂, ◌∙◌}
use mathlib.Core.Bool.{Bool, true, false}
use mathlib.Core.List.{List}
use Prim.Native.Nat.{ℕ, zero, suc, ◌≤◌, ◌<◌}
use native.Mathlib.Omega.{arith}
use lib.ListN.{length}
use Rattle.lists.proofs.Listed.{listed_at}
use Rattle.word.specs.Word.{differ, bit, word_of}
use Rattle.word.proofs.Words.{bit_word}
use Rattle.rule.specs.Rule.{value, Rest}
use Rattle.rule.specs.Chain.{Chain}
use Rattle.rule.specs.Level.{level}
use Rattle.rule.specs.Flag.{changed_at}
use Rattle.rule.proofs.Values.{change_has_chain}
use Rattle.rule.proofs.Rests.{settles_at_level, rest_unique}
use Rattle.inputs.specs.Inputs.{given}
use Rattle.inputs.specs.Allowed.{Vector}
use Rattle.card.specs.declared.Session.{Session}
use Rattle.card.specs.Session.{card_of, word_at, before_at}
use Rattle.card.specs.Held.{HasCard}
use Rattle.card.proofs.Kept.{nets_are, card_fits}
use Rattle.session.specs.Good.{Good}
use Rattle.session.specs.Moves.{ends, moved_by, vector_of, settled, rested_by, rest_of}
use Rattle.session.proofs.States.{rest_state_same}
use Rattle.session.proofs.Moving.{history_at, ends_calm}
use Rattle.session.proofs.Settling.{settled_rests}
use Rattle.session.proofs.Refusals.{rest_takes, vector_takes}

-- a net of the card has a place in the arrays
pub net_placed : (s : Session) → HasCard s → (n : ℕ) → n < s.nets → (n < length (card_of s)) × (n < 256)
net_placed s h n l = let few = (card_fits s h).fits.few in (omega (arith, nets_are s h), omega (arith, nets_are s h))

-- what a net's changes up to t depend on
changed_same : (b b' : Bool) (f f' : ℕ → Bool) (t : ℕ) → b ≡ b' → ((u : ℕ) → u ≤ t → f u ≡ f' u) → changed_at b' f' t ≡ changed_at b f t
changed_same b b' f f' zero e h = ap₂ differ (sym (h 0 (omega arith))) (sym e)
changed_same b b' f f' (suc t) e h = ap₂ differ (sym (h (suc t) (omega arith))) (sym (h t (omega arith)))

-- Rest

module _ (s : Session) (g : Good s) (loaded : s.loaded ≡ true) (v : List ℕ) (fits : Vector s.inputs v) where
  abbrev new : ℕ → Bool
  new = given s.kinds v

  abbrev left : Session
  left = (rest_of s v).session

  left_is : left ≡ rested_by s new
  left_is = ap (λ x. x.session) (rest_takes s v loaded fits)

  before_settled : (n : ℕ) → n < 256 → before_at left n ≡ settled (card_of s) new n
  unfolding rested_by
  before_settled n l = ap (λ x. before_at x n) left_is ∙ listed_at (settled (card_of s) new) 256 n false l

  -- "It puts every net at its settled value: each gate equals its function of its own pins."
  pub rest_settles : Rest (card_of s) new (before_at left)
  rest_settles =
      let h = g.card loaded in
      let few = (card_fits s h).fits.few in
      rest_state_same (card_of s) h.accepted.named new (settled (card_of s) new) (before_at left) (λ n l. sym (before_settled n (omega arith))) (settled_rests s h new)

  -- and no other state is settled for these inputs
  pub rest_only : (w : ℕ → Bool) → Rest (card_of s) new w → (n : ℕ) → n < s.nets → before_at left n ≡ w n
  rest_only w r n l =
      let h = g.card loaded in
      rest_unique (card_of s) h.accepted.free (card_fits s h).pinned h.accepted.named new (before_at left) w rest_settles r n (net_placed s h n l).0

  -- "After a rest the history is flat and equals the before values."
  pub rest_flat : (n t : ℕ) → n < 256 → t < 64 → bit (word_at left n) t ≡ before_at left n
  unfolding rested_by
  rest_flat n t l b =
      ap (λ x. bit (word_at x n) t) left_is
      ∙ ap (λ w. bit w t) (listed_at (λ m. word_of 64 (λ u. settled (card_of s) new m)) 256 n 0 l)
      ∙ bit_word 64 (λ u. settled (card_of s) new n) t b ∙ sym (before_settled n l)

-- A vector

module _ (s : Session) (g : Good s) (rested : s.rested ≡ true) (v : List ℕ) (fits : Vector s.inputs v) where
  abbrev moved : Session
  moved = (vector_of s v).session

  moved_is : moved ≡ moved_by s (given s.kinds v)
  moved_is = ap (λ x. x.session) (vector_takes s v rested fits)

  word_is : (n t : ℕ) → n < 256 → t < 64 → bit (word_at moved n) t ≡ value (card_of s) (ends s) (given s.kinds v) n t
  unfolding moved_by
  word_is n t l b = ap (λ x. bit (word_at x n) t) moved_is ∙ history_at (card_of s) (ends s) (given s.kinds v) n t l b

  before_is : (n : ℕ) → n < 256 → before_at moved n ≡ ends s n
  unfolding moved_by
  before_is n l = ap (λ x. before_at x n) moved_is ∙ listed_at (ends s) 256 n false l

  -- bit t of a net's word is its value at time t by the rule, from the last one's values at 63; these are the new before values
  pub vector_rule : (n : ℕ) → n < s.nets
      → ((t : ℕ) → t < 64 → bit (word_at moved n) t ≡ value (card_of s) (ends s) (given s.kinds v) n t) × (before_at moved n ≡ ends s n)
  vector_rule n l =
      let b = (net_placed s (g.card (g.rest rested).0) n l).1 in
      (λ t c. word_is n t b c, before_is n b)

  -- from its level on a net has its settled value
  pub settled_level : (w : ℕ → Bool) → Rest (card_of s) (given s.kinds v) w → (n t : ℕ) → n < s.nets → level (card_of s) n ≤ t → t < 64 → bit (word_at moved n) t ≡ w n
  settled_level w r n t l high b =
      let h = g.card (g.rest rested).0 in
      (vector_rule n l).0 t b
      ∙ settles_at_level (card_of s) h.accepted.free (card_fits s h).pinned (ends s) (given s.kinds v) h.accepted.named w r n t (net_placed s h n l).0 high

  -- "Nets change only at times in their PC-set": a change has its chain, from the settled start
  pub vector_changes : (n t : ℕ) → n < s.nets → t < 64 → changed_at (before_at moved n) (bit (word_at moved n)) t ≡ true → Chain (card_of s) n t
  vector_changes n t l b e =
      let q = g.rest rested in
      let rule = vector_rule n l in
      change_has_chain (card_of s) (ends s) (given s.kinds v) (ends_calm s (g.card q.0) q.1) n t
      (changed_same (before_at moved n) (ends s n) (bit (word_at moved n)) (value (card_of s) (ends s) (given s.kinds v) n) t rule.1 (λ u c. rule.0 u (omega arith)) ∙ e)
