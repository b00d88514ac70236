-- A rest puts every net at its settled value, from any start, and leaves a session of the same kind. Assumes nothing.
use mathlib.Core.Path.{◌≡◌, refl, sym, ap, ap₂, ◌∙◌}
use mathlib.Core.Bool.{Bool, true, false}
use mathlib.Core.List.{List}
use Prim.Native.Nat.{ℕ, ◌<◌}
use native.Mathlib.Omega.{arith}
use native.Mathlib.Decide.{dec_lt}
use lib.Dec.{lit<}
use lib.ListN.{length, get_or}
use Rattle.lists.specs.Listed.{listed}
use Rattle.lists.proofs.Listed.{length_listed, listed_at, listed_ext}
use Rattle.word.specs.Word.{bit, word_of}
use Rattle.word.proofs.Words.{bit_word, word_ext}
use Rattle.rule.specs.Net.{Net}
use Rattle.rule.specs.Rule.{value, Rest}
use Rattle.rule.proofs.Nets.{not_open}
use Rattle.rule.proofs.Rests.{rest_exists, settles_at_level}
use Rattle.inputs.specs.Inputs.{given}
use Rattle.inputs.specs.Inner.Starts.{tops_of, constant_at}
use Rattle.fields.specs.Inner.Fields.{advanced}
use Rattle.card.specs.declared.Session.{Session}
use Rattle.card.specs.Session.{card_of, resting}
use Rattle.card.specs.Held.{HasCard}
use Rattle.card.proofs.Kept.{card_fits, card_level}
use Rattle.session.specs.Good.{histories}
use Rattle.session.specs.Moves.{settled, rested_by}
use Rattle.session.proofs.States.{past_zero, rest_stays}
use Rattle.session.proofs.Held.{advance_pass, constant_held}
use Rattle.session.proofs.Moving.{history_at}

module _ (s : Session) (h : HasCard s) where
  abbrev c : List Net
  c = card_of s

  module _ (new : ℕ → Bool) where
    -- the settled values are a rest of the card,
    pub settled_rests : Rest c new (settled c new)
    unfolding settled
    settled_rests = rest_exists c h.accepted.free (card_fits s h).pinned (λ m. false) new 63 (card_level s h)

    settled_past : (n : ℕ) → n < 256 → ¬ (n < length c) → settled c new n ≡ false
    unfolding settled
    settled_past n b l = past_zero c (λ m. false) new n 63 (omega arith) (not_open n (omega arith))

    -- which every start leads to by time 63
    pub settled_from : (before : ℕ → Bool) (n : ℕ) → n < 256 → value c before new n 63 ≡ settled c new n
    settled_from before n b = go (dec_lt n (length c))
      where
        go : Dec (n < length c) → value c before new n 63 ≡ settled c new n
        go (yes l) = settles_at_level c h.accepted.free (card_fits s h).pinned before new h.accepted.named (settled c new) settled_rests n 63 l (card_level s h n)
        go (no l) = past_zero c before new n 63 (omega arith) (not_open n (omega arith)) ∙ sym (settled_past n b l)

    -- and from them nothing moves
    pub settled_flat : (n t : ℕ) → n < 256 → value c (settled c new) new n t ≡ settled c new n
    settled_flat n t b = go (dec_lt n (length c))
      where
        go : Dec (n < length c) → value c (settled c new) new n t ≡ settled c new n
        go (yes l) = rest_stays c h.accepted.named new (settled c new) settled_rests t n l
        go (no l) = past_zero c (settled c new) new n t (omega arith) (not_open n (omega arith)) ∙ sym (settled_past n b l)

    pub flat_histories : listed (λ n. word_of 64 (λ t. settled c new n)) 256 ≡ histories c (settled c new) new
    unfolding histories
    flat_histories =
        listed_ext (λ n. word_of 64 (λ t. settled c new n)) (λ n. word_of 64 (value c (settled c new) new n)) 256
        (λ n l. word_ext 64 (λ t. settled c new n) (value c (settled c new) new n) (λ t b. sym (settled_flat n t l)))

  -- the fields along the gates, from the constants, end in what a rest leaves
  pub fields_settle : (v : List ℕ) → length v ≡ s.inputs → (constants before : List Bool) (start words flat : List ℕ)
      → constants ≡ listed (λ n. constant_at (get_or s.kinds n 0) (get_or s.types n 0)) 256 → start ≡ listed (λ n. word_of 64 (λ t. get_or constants n false)) 256
      → words ≡ advanced s.feeds s.types s.counts s.places (listed (λ i. get_or s.order i 0) s.gates) start v
      → before ≡ tops_of words → flat ≡ listed (λ n. word_of 64 (λ t. get_or before n false)) 256
      → resting s true before flat ≡ rested_by s (given s.kinds v)
  unfolding rested_by
  fields_settle v size constants before start words flat ec es ew eb ef = ap₂ (resting s true) settled_before settled_words
    where
      new : ℕ → Bool
      new = given s.kinds v

      old : ℕ → Bool
      old n = constant_at (get_or s.kinds n 0) (get_or s.types n 0)

      -- ahead of the pass every net's word is its constant's value
      starts : (n : ℕ) → n < 256 → get_or start n 0 ≡ word_of 64 (λ t. old n)
      starts n l =
          ap (λ xs. get_or xs n 0) es ∙ listed_at (λ m. word_of 64 (λ t. get_or constants m false)) 256 n 0 l
          ∙ ap (λ b. word_of 64 (λ t. b)) (ap (λ xs. get_or xs n false) ec ∙ listed_at old 256 n false l)

      left : words ≡ histories c old new
      left =
          ew ∙ advance_pass s h old new v start size (ap length es ∙ length_listed _ 256) (λ n k l e. starts n l ∙ ap (λ b. word_of 64 (λ t. b)) (constant_held s h n k l e)) (λ n. refl)
          (λ n l. ap (λ w. bit w 63) (starts n l) ∙ bit_word 64 (λ t. old n) 63 (lit< tt))

      settled_before : before ≡ listed (settled c new) 256
      settled_before =
          eb ∙ listed_ext (λ n. bit (get_or words n 0) 63) (settled c new) 256
          (λ n l. ap (λ ws. bit (get_or ws n 0) 63) left ∙ history_at c old new n 63 l (lit< tt) ∙ settled_from new old n l)

      settled_words : flat ≡ listed (λ n. word_of 64 (λ t. settled c new n)) 256
      settled_words =
          ef ∙ listed_ext (λ n. word_of 64 (λ t. get_or before n false)) (λ n. word_of 64 (λ t. settled c new n)) 256
          (λ n l. ap (λ x. word_of 64 (λ t. x)) (ap (λ xs. get_or xs n false) settled_before ∙ listed_at (settled c new) 256 n false l))
