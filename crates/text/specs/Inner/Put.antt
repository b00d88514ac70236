-- Inner: cited by contracts between functions alone, and by laws. A text put at a place of a page. Two texts put one
-- after the other are the joined text put: `put_then` (text/proofs/Texts.antt). Assumes nothing.
use Rattle.std.specs.Prelude.{◌≡◌, List, ℕ, ◌+◌, length}
use Rattle.std.proofs.lemmas.List.Edits.{sets}
use Rattle.text.specs.declared.Page.{Page}

-- a text stands in a page from a place on, the rest of the page is as it was, and `end` is the place after the text
pub record Put (text old : List ℕ) (at : ℕ) (new : List ℕ) (end : ℕ) : Type 0 where
  pub page_is : new ≡ sets old at text
  pub end_is : end ≡ at + length text

-- a text was put onto a page where its text ended, and it is the same page that is lent
pub record Puts (text : List ℕ) (p q : Page) : Type 0 where
  pub put : Put text p.out.now p.at q.out.now q.at
  pub same : q.out.ghost_name ≡ p.out.ghost_name
