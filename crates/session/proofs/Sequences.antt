-- After a rest and any list of vectors that fit, the session's words and before values are the rule's for the last vector. By induction on
-- the list. Assumes nothing.
use mathlib.Core.Path.{◌≡◌, refl, sym, ap, ◌∙◌, subst}
use mathlib.Core.Bool.{Bool, true}
use mathlib.Core.List.Memᴰ
use mathlib.Core.List.{List, [], ◌∷◌, ◌++◌}
use Prim.Native.Nat.{ℕ, ◌<◌}
use native.Mathlib.Omega.{arith}
use lib.Dec.{lit<}
use lib.ListN.{length}
use Rattle.lists.specs.Entries.{◌∈◌}
use Rattle.word.specs.Word.{bit}
use Rattle.rule.specs.Net.{Net}
use Rattle.rule.specs.Rule.{value, Rest}
use Rattle.std.specs.Prelude.{Ok}
use Rattle.rule.proofs.Nets.{gate_listed}
use Rattle.rule.proofs.Values.{value_same}
use Rattle.inputs.specs.Inputs.{given}
use Rattle.inputs.specs.Allowed.{Vector}
use Rattle.card.specs.declared.Session.{Session}
use Rattle.card.specs.Session.{card_of, word_at, before_at}
use Rattle.card.specs.Held.{HasCard}
use Rattle.card.proofs.Kept.{nets_are, card_fits}
use Rattle.session.specs.Good.{Good}
use Rattle.session.specs.Moves.{given_to, ends, moved_by, vector_of, rested_by, rest_of}
use Rattle.session.specs.Sequence.{after, state_after}
use Rattle.session.proofs.Held.{given_card}
use Rattle.session.proofs.Refusals.{rest_takes, vector_takes}
use Rattle.session.proofs.Kept.{moved_card, rested_card, rest_good, vector_good}
use Rattle.session.proofs.Rules.{rest_only, rest_flat, vector_rule}

-- a rested session of a card, whose next vector starts from a state
pub record Stands (c : List Net) (inputs : ℕ) (state : ℕ → Bool) (t : Session) : Type 0 where
  pub good : Good t
  pub rested : t.rested ≡ true
  pub same_card : card_of t ≡ c
  pub same_inputs : t.inputs ≡ inputs
  pub ends_are : (n : ℕ) → n < length c → ends t n ≡ state n

moved_same : (t : Session) (new : ℕ → Bool) → ((moved_by t new).rested ≡ t.rested) × (card_of (moved_by t new) ≡ card_of t) × ((moved_by t new).inputs ≡ t.inputs)
unfolding moved_by
moved_same t new = (refl, moved_card t new, refl)

rested_same : (t : Session) (new : ℕ → Bool) → ((rested_by t new).rested ≡ true) × (card_of (rested_by t new) ≡ card_of t) × ((rested_by t new).inputs ≡ t.inputs)
unfolding rested_by
rested_same t new = (refl, rested_card t new, refl)

-- one vector more

module _ {c : List Net} {inputs : ℕ} {state : ℕ → Bool} {t : Session} (at : Stands c inputs state t) (v : List ℕ) (fits : Vector inputs v) where
  fits_here : Vector t.inputs v
  fits_here = subst (λ k. Vector k v) (sym at.same_inputs) fits

  taken : vector_of t v ≡ record { answer = Ok 0; session = moved_by t (given t.kinds v) }
  taken = vector_takes t v at.rested fits_here

  card : HasCard t
  card = at.good.card (at.good.rest at.rested).0

  -- by the rule of the card alone
  value_here : (n u : ℕ) → value (card_of t) (ends t) (given t.kinds v) n u ≡ value c state (given_to c v) n u
  value_here n u =
      ap (λ d. value d (ends t) (given t.kinds v) n u) at.same_card
      ∙ value_same c (λ m. Unit {0}) (λ m p i j. tt) (ends t) state (given t.kinds v) (given_to c v) (λ m i e. at.ends_are m (gate_listed c m e))
      (λ m i e. given_card t card v m ∙ ap (λ d. given_to d v m) at.same_card) n u tt

  stands_rule : (n : ℕ) → n < length c
      → ((u : ℕ) → u < 64 → bit (word_at (vector_of t v).session n) u ≡ value c state (given_to c v) n u) × (before_at (vector_of t v).session n ≡ state n)
  stands_rule n l =
      let here = vector_rule t at.good at.rested v fits_here n (omega (arith, nets_are t card, ap length at.same_card)) in
      (λ u b. here.0 u b ∙ value_here n u, here.1 ∙ at.ends_are n l)

  vector_stands : Stands c inputs (λ n. value c state (given_to c v) n 63) (vector_of t v).session
  unfolding ends
  vector_stands =
      let same = moved_same t (given t.kinds v) in
      record {
        good = vector_good t at.good v;
        rested = ap (λ x. x.session.rested) taken ∙ same.0 ∙ at.rested;
        same_card = ap (λ x. card_of x.session) taken ∙ same.1 ∙ at.same_card;
        same_inputs = ap (λ x. x.session.inputs) taken ∙ same.2 ∙ at.same_inputs;
        ends_are = λ n l. (stands_rule n l).0 63 (lit< tt);
      }

-- any list of vectors

pub after_stands : {c : List Net} {inputs : ℕ} {state : ℕ → Bool} {t : Session} → Stands c inputs state t → (vs : List (List ℕ)) → ((v : List ℕ) → v ∈ vs → Vector inputs v)
    → Stands c inputs (state_after c state vs) (after t vs)
unfolding after state_after
after_stands at [] fits = at
after_stands {c = c} {state = state} at (v ∷ vs) fits =
    after_stands {state = λ x. value c state (given_to c v) x 63} (vector_stands at v (fits v (Memᴰ.head refl))) vs (λ w m. fits w (Memᴰ.tail m))

after_more : (t : Session) (vs : List (List ℕ)) (v : List ℕ) → after t (vs ++ (v ∷ [])) ≡ (vector_of (after t vs) v).session
unfolding after
after_more t [] v = refl
after_more t (w ∷ vs) v = after_more (vector_of t w).session vs v

-- from a rest

module _ (s : Session) (g : Good s) (loaded : s.loaded ≡ true) (u : List ℕ) (fits : Vector s.inputs u) where
  abbrev c : List Net
  c = card_of s

  module _ (start : ℕ → Bool) (r : Rest c (given_to c u) start) where
    pub rest_stands : Stands c s.inputs start (rest_of s u).session
    unfolding ends
    rest_stands =
        let h = g.card loaded in
        let few = (card_fits s h).fits.few in
        let done = rest_takes s u loaded fits in
        let same = rested_same s (given s.kinds u) in
        let here : Rest c (given s.kinds u) start = subst (λ new. Rest c new start) (λ i m. sym (given_card s h u m) i) r in
        record {
          good = rest_good s g u;
          rested = ap (λ x. x.session.rested) done ∙ same.0;
          same_card = ap (λ x. card_of x.session) done ∙ same.1;
          same_inputs = ap (λ x. x.session.inputs) done ∙ same.2;
          ends_are = λ n l. rest_flat s g loaded u fits n 63 (omega arith) (lit< tt) ∙ rest_only s g loaded u fits start here n (omega (arith, nets_are s h));
        }

    module _ (vs : List (List ℕ)) (all : (v : List ℕ) → v ∈ vs → Vector s.inputs v) (v : List ℕ) (last : Vector s.inputs v) where
      -- every vector of the list is taken
      pub sequence_taken : (vector_of (after (rest_of s u).session vs) v).answer ≡ Ok 0
      sequence_taken = ap (λ x. x.answer) (taken (after_stands rest_stands vs all) v last)

      -- and leaves the same card, rested
      pub sequence_stands : Stands c s.inputs (λ n. value c (state_after c start vs) (given_to c v) n 63) (after (rest_of s u).session (vs ++ (v ∷ [])))
      sequence_stands = subst (Stands c s.inputs (λ n. value c (state_after c start vs) (given_to c v) n 63)) (sym (after_more (rest_of s u).session vs v)) (vector_stands (after_stands rest_stands vs all) v last)

      -- whatever settled state the rest is, the history is the rule's for the last vector, from what the earlier ones left of that state
      pub sequence_rule : (n : ℕ) → n < s.nets
          → ((t : ℕ) → t < 64 → bit (word_at (after (rest_of s u).session (vs ++ (v ∷ []))) n) t ≡ value c (state_after c start vs) (given_to c v) n t)
          × (before_at (after (rest_of s u).session (vs ++ (v ∷ []))) n ≡ state_after c start vs n)
      sequence_rule n l =
          let more = after_more (rest_of s u).session vs v in
          let here = stands_rule (after_stands rest_stands vs all) v last n (omega (arith, nets_are s (g.card loaded))) in
          (λ t b. ap (λ x. bit (word_at x n) t) more ∙ here.0 t b, ap (λ x. before_at x n) more ∙ here.1)
