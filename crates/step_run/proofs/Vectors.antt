-- A vector by steps: where it starts, what the arrays name, what is handed back. Assumes nothing.
use mathlib.Core.Path.{◌≡◌, refl, ap, ap₂, ◌∙◌}
use mathlib.Core.Bool.{Bool, true, false, cond}
use mathlib.Core.List.{List}
use Prim.Native.Nat.{ℕ, ◌<◌}
use lib.ListN.{length, get_or}
use Rattle.lists.specs.Listed.{listed}
use Rattle.lists.proofs.Listed.{length_listed, listed_at, listed_ext}
use Rattle.word.specs.Word.{word_of}
use Rattle.rule.specs.Steps.{Step, step_list}
use Rattle.rule.specs.declared.Refusal.{Refusal}
use Rattle.std.specs.Prelude.{Ok, Err}
use Rattle.rule.specs.Answers.{Verdict}
use Rattle.inputs.specs.Allowed.{Vector}
use Rattle.inputs.specs.Inputs.{is_input_kind, given, vector_judged}
use Rattle.inputs.proofs.Verdicts.{vector_judged_lem}
use Rattle.inputs.specs.Inner.Starts.{nets_put, byte_word, tops_of}
use Rattle.inputs.proofs.Starts.{inputs_put, nets_put_lem}
use Rattle.card.specs.declared.Session.{Session}
use Rattle.card.specs.Session.{card_of, resting}
use Rattle.card.specs.Held.{HasCard}
use Rattle.card.proofs.Kept.{feeds_are}
use Rattle.session.specs.Moves.{refused_move, moving, ends}
use Rattle.session.proofs.Held.{inputs_ranked}
use Rattle.session.proofs.Moving.{tops_ends}
use Rattle.session.proofs.Answers.{moving_refused, moving_done}
use Rattle.step_vars.specs.Variables.{histories_from}
use Rattle.step_vars.specs.Inner.Variables.{start_in}
use Rattle.step_run.specs.declared.Advanced.{Advanced}
use Rattle.step_run.specs.Runs.{Ran, ran}
use Rattle.step_run.specs.Vector.{start_vars, ran_along, ran_session, steps_vector_of}
use Rattle.step_run.specs.Inner.Runs.{stepped, ran_move}

module _ (s : Session) where
  -- The start

  -- the inputs put over the before values
  pub start_is : HasCard s → (v : List ℕ) → length v ≡ s.inputs → (before : List Bool) (vars : List ℕ) → before ≡ listed (ends s) 256 → vars ≡ start_in before s.feeds v
      → vars ≡ start_vars s (given s.kinds v)
  unfolding start_in start_vars inputs_put
  start_is h v size before vars eb ev =
      ev
      ∙ ap₂ (λ fs bs. nets_put fs (byte_word v) (length v) (flat bs)) (feeds_are s h) eb
      ∙ nets_put_lem s.kinds v (flat (listed (ends s) 256)) (length_listed _ 256) (size ∙ inputs_ranked s h)
      ∙ listed_ext _ _ 256 at
    where
      flat : List Bool → List ℕ
      flat bs = listed (λ n. word_of 64 (λ t. get_or bs n false)) 256

      held : (n : ℕ) → n < 256 → get_or (flat (listed (ends s) 256)) n 0 ≡ word_of 64 (λ t. ends s n)
      held n l =
          listed_at (λ m. word_of 64 (λ t. get_or (listed (ends s) 256) m false)) 256 n 0 l ∙ ap (λ b. word_of 64 (λ t. b)) (listed_at (ends s) 256 n false l)

      inside : (b : Bool) (n : ℕ) → cond b (word_of 64 (λ t. given s.kinds v n)) (word_of 64 (λ t. ends s n)) ≡ word_of 64 (λ t. cond b (given s.kinds v n) (ends s n))
      inside true n = refl
      inside false n = refl

      at : (n : ℕ) → n < 256
          → cond (is_input_kind (get_or s.kinds n 0)) (word_of 64 (λ t. given s.kinds v n)) (get_or (flat (listed (ends s) 256)) n 0)
          ≡ word_of 64 (λ t. cond (is_input_kind (get_or s.kinds n 0)) (given s.kinds v n) (ends s n))
      at n l = ap (cond (is_input_kind (get_or s.kinds n 0)) (word_of 64 (λ t. given s.kinds v n))) (held n l) ∙ inside (is_input_kind (get_or s.kinds n 0)) n

  -- What a run hands back

  -- steps from the session's words leave what a run of them leaves
  pub stepped_run : HasCard s → (v : List ℕ) → length v ≡ s.inputs → (ks : List Step)
      → stepped s.feeds s.types s.counts s.places s.sets ks s.words v
      ≡ (let r = ran_along s (given s.kinds v) ks in record { words = histories_from s.sets r.words; count = r.count })
  unfolding stepped ran_along
  stepped_run h v size ks =
      ap (λ vars. let r = ran s.types s.counts s.places s.sets vars ks in record { words = histories_from s.sets r.words; count = r.count })
      (start_is h v size (tops_of s.words) _ (tops_ends s _ refl) refl)

  pub run_made : (new : ℕ → Bool) (ks : List Step) (left : Advanced) (before : List Bool) (next : Session)
      → left ≡ (let r = ran_along s new ks in record { words = histories_from s.sets r.words; count = r.count }) → before ≡ listed (ends s) 256
      → next ≡ resting s s.rested before left.words → record { answer = Ok left.count; session = next } ≡ ran_move s (ran_along s new ks)
  unfolding ran_session
  run_made new ks left before next el eb en =
      ap (λ x. record { answer = Ok left.count; session = x }) (en ∙ ap (λ b. resting s s.rested b left.words) eb)
      ∙ ap (λ (x : Advanced). record { answer = Ok x.count; session = resting s s.rested (listed (ends s) 256) x.words }) el

  -- The answer

  module _ (v : List ℕ) where
    abbrev along : Ran
    along = ran_along s (given s.kinds v) (step_list (card_of s))

    pub steps_takes : s.rested ≡ true → Vector s.inputs v → steps_vector_of s v ≡ ran_move s along
    unfolding steps_vector_of
    steps_takes e w = ap (λ x. moving s x along.count (ran_session s along)) (vector_judged_lem s.rested s.inputs v e w)

    module _ (x : Verdict) (e : x ≡ vector_judged s.rested s.inputs v) where
      pub vector_refused_by : (why : Refusal) → x ≡ Err why → refused_move s why ≡ steps_vector_of s v
      unfolding steps_vector_of
      vector_refused_by = moving_refused s along.count (ran_session s along) x _ e

      pub vector_run : x ≡ (Ok tt) → ran_move s along ≡ steps_vector_of s v
      unfolding steps_vector_of
      vector_run = moving_done s along.count (ran_session s along) x _ e (ran_session s along) refl
