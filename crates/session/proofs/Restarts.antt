-- Where a vector ends does not depend on where it started, so a session follows from its card and the last two vectors. Assumes nothing.
use mathlib.Core.Path.{◌≡◌, sym, ap, ap₂, ◌∙◌}
use mathlib.Core.Bool.{Bool, true}
use Prim.Native.Nat.{ℕ, ◌≤◌, ◌<◌}
use native.Mathlib.Omega.{arith}
use native.Mathlib.Decide.{dec_lt}
use lib.Dec.{lit<}
use Rattle.lists.specs.Listed.{listed}
use Rattle.lists.proofs.Listed.{listed_at, listed_past}
use Rattle.word.specs.Word.{bit, word_of}
use Rattle.word.proofs.Words.{bit_word}
use Rattle.rule.specs.Rule.{value}
use Rattle.card.specs.declared.Session.{Session}
use Rattle.card.specs.Session.{card_of, resting}
use Rattle.card.specs.Held.{HasCard}
use Rattle.session.specs.Good.{histories}
use Rattle.session.specs.Moves.{ends, moved_by, settled, rested_by}
use Rattle.session.proofs.Moving.{history_at}
use Rattle.session.proofs.Settling.{settled_from}
use Rattle.session.proofs.SameCard.{SameCard, same_self, same_card, rested_same, moved_same}

module _ (s : Session) (h : HasCard s) (x y : ℕ → Bool) where
  flat_ends : (n : ℕ) → n < 256 → ends (rested_by s y) n ≡ settled (card_of s) y n
  unfolding ends rested_by
  flat_ends n l =
      ap (λ w. bit w 63) (listed_at (λ n. word_of 64 (λ t. settled (card_of s) y n)) 256 n 0 l) ∙ bit_word 64 (λ t. settled (card_of s) y n) 63 (lit< tt)

  flat_past : (n : ℕ) → 256 ≤ n → ends (rested_by s y) n ≡ bit 0 63
  unfolding ends rested_by
  flat_past n l = ap (λ w. bit w 63) (listed_past (λ n. word_of 64 (λ t. settled (card_of s) y n)) 256 n 0 l)

  rests : (z : ℕ → Bool) → SameCard s true (rested_by s z)
  rests z = rested_same s s.rested s (same_self s) z

  moved_ends : (n : ℕ) → n < 256 → ends (moved_by (rested_by s x) y) n ≡ settled (card_of s) y n
  unfolding ends moved_by
  moved_ends n l =
      history_at (card_of (rested_by s x)) (ends (rested_by s x)) y n 63 l (lit< tt)
      ∙ ap (λ c. value c (ends (rested_by s x)) y n 63) (same_card s true (rested_by s x) (rests x)) ∙ settled_from s h y (ends (rested_by s x)) n l

  moved_past : (n : ℕ) → 256 ≤ n → ends (moved_by (rested_by s x) y) n ≡ bit 0 63
  unfolding ends moved_by histories
  moved_past n l = ap (λ w. bit w 63) (listed_past (λ n. word_of 64 (value (card_of (rested_by s x)) (ends (rested_by s x)) y n)) 256 n 0 l)

  same_ends : (n : ℕ) → ends (moved_by (rested_by s x) y) n ≡ ends (rested_by s y) n
  same_ends n = go (dec_lt n 256)
    where
      go : Dec (n < 256) → ends (moved_by (rested_by s x) y) n ≡ ends (rested_by s y) n
      go (yes l) = moved_ends n l ∙ sym (flat_ends n l)
      go (no l) = moved_past n (omega arith) ∙ sym (flat_past n (omega arith))

  -- after two vectors the first is forgotten
  pub moved_again : (z : ℕ → Bool) → moved_by (moved_by (rested_by s x) y) z ≡ moved_by (rested_by s y) z
  unfolding moved_by rested_by
  moved_again z =
      let e : ends (moved_by (rested_by s x) y) ≡ ends (rested_by s y) = λ i n. same_ends n i in
      let first = same_card s true (moved_by (rested_by s x) y) (moved_same s true (rested_by s x) (rests x) y) in
      let second = same_card s true (rested_by s y) (rests y) in
      ap₂ (λ c f. resting s true (listed f 256) (histories c f z)) (first ∙ sym second) e
