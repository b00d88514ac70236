-- Sessions that have the same card: rest and a vector keep it, and a rest starts afresh, whatever the session's rest was. Assumes nothing.
use mathlib.Core.Path.{◌≡◌, refl, sym, ap, ◌∙◌}
use mathlib.Core.Bool.{Bool, true}
use Prim.Native.Nat.{ℕ}
use Rattle.lists.specs.Listed.{listed}
use Rattle.word.specs.Word.{word_of}
use Rattle.card.specs.declared.Session.{Session}
use Rattle.card.specs.Session.{card_of, resting}
use Rattle.card.proofs.Sessions.{resting_card}
use Rattle.session.specs.Moves.{moved_by, settled, rested_by}

-- t has the card of s, at a rest of its own
pub record SameCard (s : Session) (rested : Bool) (t : Session) : Type 0 where
  pub rests : t.rested ≡ rested
  pub card : resting t rested t.before t.words ≡ resting s rested t.before t.words

pub same_self : (s : Session) → SameCard s s.rested s
same_self s = record { rests = refl; card = refl }

module _ (s : Session) (rested : Bool) (t : Session) (e : SameCard s rested t) where
  pub same_card : card_of t ≡ card_of s
  same_card = sym (resting_card t rested t.before t.words) ∙ ap card_of e.card ∙ resting_card s rested t.before t.words

  module _ (new : ℕ → Bool) where
    pub rested_same : SameCard s true (rested_by t new)
    unfolding rested_by
    rested_same = record { rests = refl; card = ap (λ x. resting x true (rested_by t new).before (rested_by t new).words) e.card }

    pub moved_same : SameCard s rested (moved_by t new)
    unfolding moved_by
    moved_same = record { rests = e.rests; card = ap (λ x. resting x rested (moved_by t new).before (moved_by t new).words) e.card }

    -- "A second rest starts afresh."
    pub rest_afresh : rested_by t new ≡ rested_by s new
    unfolding rested_by
    rest_afresh =
        ap (λ x. resting x true (rested_by t new).before (rested_by t new).words) e.card
        ∙ ap (λ c. resting s true (listed (settled c new) 256) (listed (λ n. word_of 64 (λ u. settled c new n)) 256)) same_card
