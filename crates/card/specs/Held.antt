-- The sessions that load can leave, as far as the card goes. Assumes nothing.
use Rattle.std.specs.Prelude.{◌≡◌, true}
use Rattle.card.specs.declared.Session.{Session}
use Rattle.card.specs.Session.{session_of, card_of, resting}
use Rattle.card.specs.Allowed.{Accepted}

-- the session's card is one that document 01 allows, and all that is kept of it is right
pub record HasCard (s : Session) : Type 0 where
  pub accepted : Accepted (card_of s)
  pub laid : s ≡ resting (session_of (card_of s)) s.rested s.before s.words

-- where a card is loaded
abbrev pub Carded : Session → Type 0
Carded s = s.loaded ≡ true → HasCard s
