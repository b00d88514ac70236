-- A vector by fields moves a session as the rule says: from the last vector's end, and to a session of the same kind. Assumes nothing.
use mathlib.Core.Path.{◌≡◌, refl, sym, ap, ap₂, ◌∙◌}
use mathlib.Core.Bool.{Bool}
use mathlib.Core.List.{List}
use Prim.Native.Nat.{ℕ, ◌<◌}
use native.Mathlib.Omega.{arith}
use lib.Dec.{lit<}
use lib.ListN.{length, get_or}
use Rattle.lists.specs.Listed.{listed}
use Rattle.lists.proofs.Listed.{length_listed, listed_at, listed_ext}
use Rattle.word.specs.Word.{bit, word_of}
use Rattle.word.proofs.Words.{bit_word, word_ext}
use Rattle.rule.specs.Net.{Net, constant, net_at}
use Rattle.rule.specs.Rule.{value, AtRest}
use Rattle.rule.proofs.Values.{constant_is}
use Rattle.rule.proofs.Rests.{ends_at_rest}
use Rattle.inputs.specs.Inputs.{given}
use Rattle.inputs.specs.Inner.Starts.{tops_of}
use Rattle.fields.specs.Inner.Fields.{advanced}
use Rattle.card.specs.declared.Session.{Session}
use Rattle.card.specs.Session.{card_of, word_at, resting}
use Rattle.card.specs.Held.{HasCard}
use Rattle.card.proofs.Kept.{card_fits, card_level}
use Rattle.session.specs.Good.{histories, Rested}
use Rattle.session.specs.Moves.{ends, moved_by}
use Rattle.session.proofs.States.{rest_same}
use Rattle.session.proofs.Held.{advance_pass}

-- a net's word in the histories
pub history_at : (c : List Net) (before new : ℕ → Bool) (n t : ℕ) → n < 256 → t < 64 → bit (get_or (histories c before new) n 0) t ≡ value c before new n t
unfolding histories
history_at c before new n t l b = ap (λ w. bit w t) (listed_at (λ m. word_of 64 (value c before new m)) 256 n 0 l) ∙ bit_word 64 (value c before new n) t b

module _ (s : Session) (h : HasCard s) (r : Rested s) where
  abbrev c : List Net
  c = card_of s

  -- "The value at 63 is the next before value."
  pub ends_are : (n : ℕ) → n < 256 → ends s n ≡ value c r.old r.new n 63
  unfolding ends
  ends_are n l = ap (λ ws. bit (get_or ws n 0) 63) r.words_are ∙ history_at c r.old r.new n 63 l (lit< tt)

  -- so each vector starts settled
  pub ends_calm : AtRest c (ends s)
  ends_calm =
      let few = (card_fits s h).fits.few in
      rest_same c h.accepted.named (λ n. value c r.old r.new n 63) (ends s) (λ n l. sym (ends_are n (omega arith)))
      (ends_at_rest c h.accepted.free (card_fits s h).pinned r.old r.new 63 (card_level s h))

  pub constant_ends : (n : ℕ) (k : Bool) → n < 256 → net_at c n ≡ constant k → ends s n ≡ k
  constant_ends n k l e = ends_are n l ∙ constant_is c r.old r.new n 63 k e

  pub words_long : length s.words ≡ 256
  unfolding histories
  words_long = ap length r.words_are ∙ length_listed _ 256

  -- the fields along the gates from the last vector's words are what a vector leaves
  pub words_move : (v : List ℕ) → length v ≡ s.inputs
      → advanced s.feeds s.types s.counts s.places (listed (λ i. get_or s.order i 0) s.gates) s.words v ≡ (moved_by s (given s.kinds v)).words
  unfolding moved_by ends histories
  words_move v size = advance_pass s h (ends s) (given s.kinds v) v s.words size words_long constant_word (λ n. refl) (λ n l. refl)
    where
      constant_word : (n : ℕ) (k : Bool) → n < 256 → net_at c n ≡ constant k → word_at s n ≡ word_of 64 (λ t. k)
      constant_word n k l e =
          ap (λ ws. get_or ws n 0) r.words_are ∙ listed_at (λ m. word_of 64 (value c r.old r.new m)) 256 n 0 l
          ∙ word_ext 64 (value c r.old r.new n) (λ t. k) (λ t b. constant_is c r.old r.new n t k e)

  -- and so they are with the before values
  pub fields_move : (v : List ℕ) → length v ≡ s.inputs → (b : List Bool) (words : List ℕ) → b ≡ tops_of s.words
      → words ≡ advanced s.feeds s.types s.counts s.places (listed (λ i. get_or s.order i 0) s.gates) s.words v
      → resting s s.rested b words ≡ moved_by s (given s.kinds v)
  unfolding moved_by ends
  fields_move v size b words eb ew = ap₂ (resting s s.rested) eb (ew ∙ words_move v size)

-- What the code leaves, in the words of a vector's move

-- the tops of the words are the values at 63
pub tops_ends : (s : Session) (before : List Bool) → before ≡ tops_of s.words → before ≡ listed (ends s) 256
unfolding ends
tops_ends s before e = e

-- words that have the rule's bits are those that a vector leaves
pub moved_by_rule : (s : Session) (new : ℕ → Bool) (f : ℕ → ℕ → Bool) → ((n t : ℕ) → n < 256 → t < 64 → f n t ≡ value (card_of s) (ends s) new n t)
    → resting s s.rested (listed (ends s) 256) (listed (λ n. word_of 64 (f n)) 256) ≡ moved_by s new
unfolding moved_by histories
moved_by_rule s new f is =
    ap (resting s s.rested (listed (ends s) 256))
    (listed_ext (λ n. word_of 64 (f n)) (λ n. word_of 64 (value (card_of s) (ends s) new n)) 256
    (λ n l. word_ext 64 (f n) (value (card_of s) (ends s) new n) (λ t b. is n t l b)))
