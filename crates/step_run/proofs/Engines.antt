-- Document 01's demand 3, of the code's own run of steps: in any good order each step gives its value when it is reached, along the first
-- entries each step done has its value, and the whole run leaves the rule's histories, as a vector by fields does. Its count is the number of
-- gate-and-time pairs that have a chain. Assumes nothing.
use mathlib.Core.Path.{◌≡◌, refl, sym, ap, ◌∙◌, subst}
use mathlib.Core.Bool.{Bool, true}
use mathlib.Core.List.Memᴰ
use mathlib.Core.List.{List, [], ◌∷◌, ◌++◌}
use mathlib.Core.Logic.{inl}
use Prim.Native.Nat.{ℕ, suc, ◌+◌, ◌<◌}
use native.Mathlib.Numerals.{add-one}
use native.Mathlib.Omega.{arith}
use lib.ListN.{length, get_or, take}
use Rattle.lists.specs.Entries.{◌∈◌, Number}
use Rattle.word.specs.Word.{bit}
use Rattle.word.specs.Times.{greatest, no_time, zero_in}
use Rattle.rule.specs.Net.{Net}
use Rattle.rule.specs.Chain.{pc_set}
use Rattle.rule.specs.Rule.{value}
use Rattle.rule.specs.Run.{made, run}
use Rattle.rule.specs.Steps.{Step, same_step, IsStep, Joined, read_at, step_reads, step_fn, GoodOrder, step_list}
use Rattle.rule.proofs.PinReads.{read_named, read_below}
use Rattle.rule.proofs.Runs.{take_in}
use Rattle.rule.proofs.StepRuns.{reached, left_by_first, left_history}
use Rattle.rule.proofs.StepLists.{list_good, list_number}
use Rattle.rule.specs.Answers.{Verdict}
use Rattle.inputs.specs.Inputs.{given, vector_judged}
use Rattle.inputs.proofs.Verdicts.{Judging, refused, passed, judging}
use Rattle.card.specs.declared.Session.{Session}
use Rattle.card.specs.Session.{card_of}
use Rattle.card.specs.Held.{HasCard}
use Rattle.card.proofs.Kept.{card_fits}
use Rattle.session.specs.Good.{Rested, Good}
use Rattle.session.specs.Moves.{moving, ends, moved_by, vector_of}
use Rattle.session.proofs.Moving.{ends_calm}
use Rattle.session.proofs.Moving.{moved_by_rule}
use Rattle.step_vars.specs.Variables.{vars_of, reads_in, fn_in, history_word, histories_from}
use Rattle.step_vars.proofs.Stores.{var_net}
use Rattle.step_list.proofs.Cards.{step_low}
use Rattle.step_run.specs.Runs.{ran}
use Rattle.step_run.specs.Vector.{start_vars, ran_along, ran_session, steps_vector_of}
use Rattle.step_run.specs.AnyOrder.{AnyOrder}
use Rattle.step_run.proofs.Runs.{ran_count}
use Rattle.step_run.proofs.Starts.{start_ahead}
use Rattle.step_run.proofs.Words.{Kept, set_same, made_same, run_same}

-- the count of a run is the number of its steps
pub run_count : (s : Session) (new : ℕ → Bool) (ks : List Step) → (ran_along s new ks).count ≡ length ks
unfolding ran_along
run_count s new ks = ran_count s.types s.counts s.places s.sets (start_vars s new) ks

module _ (s : Session) (good : Good s) (rested : s.rested ≡ true) (new : ℕ → Bool) where
  abbrev c : List Net
  c = card_of s

  card : HasCard s
  card = good.card (good.rest rested).0

  calm : Rested s
  calm = (good.rest rested).1

  abbrev start : Step → Bool
  start = vars_of (start_vars s new)

  -- the words after a run of the card's steps hold what its steps leave
  left_same : (ks : List Step) → ((k : Step) → k ∈ ks → IsStep c k) → (j : Step) → Kept j → vars_of (ran_along s new ks).words j ≡ run same_step (step_reads c) (step_fn c) start ks j
  unfolding ran_along ran
  left_same ks all = run_same s card (record { words = start_vars s new; count = 0 }) start (λ j kept. refl) ks all

  module _ (ks : List Step) (order : GoodOrder c ks) where
    -- "each step gives its proper value when it is reached"
    pub run_reached : (xs : List Step) (k : Step) (ys : List Step) → ks ≡ xs ++ k ∷ ys
        → made same_step (reads_in s.counts s.places s.sets) (fn_in s.types) (vars_of (ran_along s new xs).words) k ≡ value c (ends s) new k.net k.time
    run_reached xs k ys e =
        made_same s card k (order.only k (in_order k (seam xs)))
        (ran_along s new xs).words (run same_step (step_reads c) (step_fn c) start xs) (left_same xs (λ j m. order.only j (in_order j (ahead_of j xs m))))
        ∙ reached c (ends s) new (ends_calm s card calm) start (start_ahead s card calm new) ks order xs k ys e
      where
        in_order : (j : Step) → j ∈ xs ++ k ∷ ys → j ∈ ks
        in_order j m = subst (λ l. j ∈ l) (sym e) m

        seam : (zs : List Step) → k ∈ zs ++ k ∷ ys
        seam [] = Memᴰ.head refl
        seam (z ∷ zs) = Memᴰ.tail (seam zs)

        ahead_of : (j : Step) (zs : List Step) → j ∈ zs → j ∈ zs ++ k ∷ ys
        ahead_of j zs (Memᴰ.head e) = Memᴰ.head e
        ahead_of j zs (Memᴰ.tail {xs = rest} m) = Memᴰ.tail (ahead_of j rest m)

    -- along the first m entries each step done has its value
    pub run_first : (m : ℕ) (k : Step) → k ∈ take m ks → bit (get_or (ran_along s new (take m ks)).words k.net 0) k.time ≡ value c (ends s) new k.net k.time
    run_first m k i =
        let low = step_low s card k (order.only k (take_in m ks k i)) in
        sym (var_net (ran_along s new (take m ks)).words k.net k.time low.0)
        ∙ left_same (take m ks) (λ j q. order.only j (take_in m ks j q)) k (inl low.0, low.2)
        ∙ left_by_first c (ends s) new (ends_calm s card calm) start (start_ahead s card calm new) ks order m k i

    history_is : (n t : ℕ) → n < 256 → t < 64 → bit (get_or (ran_along s new ks).words n 0) (greatest (zero_in (bit (get_or s.sets n 0))) (t + 1) no_time) ≡ value c (ends s) new n t
    history_is n t l b =
        let u = read_below c (suc t) n (omega arith) in
        let read = read_named c (suc t) n in
        ap (bit (get_or (ran_along s new ks).words n 0)) (set_same s card n (t + 1) l (omega arith) ∙ ap (λ d. greatest (zero_in (pc_set c n)) d no_time) (add-one t))
        ∙ sym (var_net (ran_along s new ks).words n (greatest (zero_in (pc_set c n)) (suc t) no_time) l)
        ∙ ap (vars_of (ran_along s new ks).words) (sym read)
        ∙ left_same ks order.only (read_at c (suc t) n) (inl (omega (arith, ap (λ x. x.net) read, l)), omega (arith, u, b))
        ∙ left_history c (ends s) new (ends_calm s card calm) start (start_ahead s card calm new) ks order n t

    -- "the whole run ends with the rule's history"
    pub run_whole : ran_session s (ran_along s new ks) ≡ moved_by s new
    unfolding ran_session histories_from history_word
    run_whole = moved_by_rule s new (λ n t. bit (get_or (ran_along s new ks).words n 0) (greatest (zero_in (bit (get_or s.sets n 0))) (t + 1) no_time)) history_is

  -- A vector by steps leaves the rule's histories,
  pub steps_rule : ran_session s (ran_along s new (step_list c)) ≡ moved_by s new
  steps_rule = run_whole (step_list c) (list_good c card.accepted.free (card_fits s card).pinned)

  -- and "steps done, equal to the number of gate-and-time pairs that have a chain"
  pub steps_number : Number (Joined c) (ran_along s new (step_list c)).count
  steps_number = subst (Number (Joined c)) (sym (run_count s new (step_list c))) (list_number c card.accepted.free (card_fits s card).pinned)

-- Demand 3 in one: every good order
pub run_any_order : (s : Session) → Good s → s.rested ≡ true → (new : ℕ → Bool) (ks : List Step) → GoodOrder (card_of s) ks → AnyOrder s new ks
run_any_order s good rested new ks order = record {
  each_gives = run_reached s good rested new ks order;
  first_have = run_first s good rested new ks order;
  whole_leaves = run_whole s good rested new ks order;
  counts = run_count s new ks;
}

-- The two engines leave the same session, whatever the vector
pub engines_equal : (s : Session) → Good s → (v : List ℕ) → (steps_vector_of s v).session ≡ (vector_of s v).session
unfolding steps_vector_of vector_of
engines_equal s good v = go (vector_judged s.rested s.inputs v) (judging s.rested s.inputs v)
  where
    new : ℕ → Bool
    new = given s.kinds v

    go : (x : Verdict) → Judging s.rested s.inputs v x
        → (moving s x (ran_along s new (step_list (card_of s))).count (ran_session s (ran_along s new (step_list (card_of s))))).session ≡ (moving s x 0 (moved_by s new)).session
    go x (refused r g) = refl
    go x (passed e w) = steps_rule s good e new
