-- The three demands. Each is stated over the operations' own definitions, and asks nothing but the session predicate; what document 01 leaves to the
-- caller (a card that is rested, a vector that is not refused) stands as a hypothesis where the demand says so. Assumes nothing.
use mathlib.Core.Path.{◌≡◌, refl, sym, ap, subst, ◌∙◌}
use mathlib.Core.Bool.{Bool, true, false}
use mathlib.Core.List.{List, [], ◌∷◌, ◌++◌}
use Prim.Native.Nat.{ℕ, ◌<◌, ◌≤◌}
use native.Mathlib.Omega.{arith}
use lib.Dec.{lit<}
use lib.ListN.{length, get_or}
use Rattle.lists.specs.Entries.{◌∈◌, Number}
use Rattle.word.specs.Word.{bit, val}
use Rattle.rule.specs.Net.{Net}
use Rattle.rule.specs.Rule.{value, Rest}
use Rattle.rule.specs.Steps.{Joined, GoodOrder, step_list, step_at}
use Rattle.rule.specs.Numbers.{number_of, answer_number}
use Rattle.rule.specs.declared.Refusal.{Refusal}
use Rattle.rule.specs.declared.Refusal.TheVariants.{OrderLength, OrderEntry, OrderEarly}
use Rattle.std.specs.Prelude.{Ok}
use Rattle.rule.proofs.StepLists.{list_number}
use Rattle.rule.specs.Answers.{Verdict}
use Rattle.inputs.specs.Inputs.{given}
use Rattle.inputs.specs.Allowed.{Vector, gets_12, gets_10, gets_11}
use Rattle.card_records.specs.Written.{Bytes}
use Rattle.card.specs.declared.Session.{Session}
use Rattle.card.specs.Session.{none, inputs_of, session_of, card_of}
use Rattle.card.specs.Load.{load_of}
use Rattle.card.specs.Allowed.{Allowed}
use Rattle.card.specs.Held.{HasCard}
use Rattle.card.proofs.Kept.{session_card, session_holds, loaded_is, nets_are, inputs_are, card_fits}
use Rattle.card.proofs.Verdicts.{load_takes, load_taken, load_refuses, load_refused}
use Rattle.session.specs.Good.{Good}
use Rattle.session.specs.Moves.{given_to, ends, rest_of, vector_of}
use Rattle.session.specs.Sequence.{after, state_after}
use Rattle.session.proofs.Kept.{none_good, load_good, taken_good, rest_good}
use Rattle.session.proofs.Held.{given_card}
use Rattle.session.proofs.Refusals.{rest_takes, vector_takes}
use Rattle.session.proofs.Rules.{rest_settles, rest_flat, vector_rule}
use Rattle.session.proofs.Sequences.{Stands, rest_stands, after_stands, sequence_rule, sequence_stands}
use Rattle.history.specs.Told.{Roomy, history_of}
use Rattle.rule.proofs.Flags.{flag_cong, flat_flag}
use Rattle.history.proofs.Histories.{history_0, history_count, history_shows}
use Rattle.step_orders.specs.Orders.{steps_of, order_judged}
use Rattle.step_orders.proofs.Judging.{Fit, good_fit, Judgement, judgement, gets_15 as judged-15, gets_16 as judged-16, gets_17 as judged-17, taken as judged-taken}
use Rattle.step_run.specs.Vector.{ran_along, steps_vector_of}
use Rattle.step_run.specs.AnyOrder.{AnyOrder}
use Rattle.step_run.proofs.Vectors.{steps_takes}
use Rattle.step_run.proofs.Engines.{run_any_order, steps_number}
use Rattle.operations.specs.declared.Engine.TheVariants.{Fields, Steps}
use Rattle.operations.specs.Operated.{vector_by}
use Rattle.operations.proofs.Engines.{same_session, by_good, by_takes}
use Rattle.bench.specs.Bench.{bench_of}
use Rattle.bench.specs.Allowed.{step_count, Doing, BenchGets, gets_vector, gets_15, gets_16, gets_17, gets_19, gets_18}
use Rattle.bench.proofs.Benches.{bench_refuses, bench_refused_lem, bench_answers, bench_proper, bench_others, bench_whole, bench_stays, bench_good}
use Rattle.demands.specs.Operations.{Operation, load, rest, vector, history, list, records, ask, trace, bench, lent_to, outcome, Same, Given, Turn, after_by, vectors}
use Rattle.demands.specs.Histories.{HandsOut}
use Rattle.demands.specs.Cards.{Accepts, CardRuns}
use Rattle.demands.specs.Benches.{OrderFault, fault_15, fault_16, fault_17, TurnedAway, BenchValues, BenchWhole}
use Rattle.demands.proofs.Refusing.{keeps}

-- Demand 1. "Give the program a card or a vector of any kind, damaged ones too: it ends with a result or a numbered refusal. Nothing has to be checked
-- beforehand. A refusal leaves the session and all lent room as they stood."
pub demand_1 : (s : Session) (o : Operation) → ¬ ((outcome s o).number ≡ 0) → Same s (lent_to o) (outcome s o)
demand_1 s o n = keeps s o n

-- the session predicate is met by the empty session and kept by every operation
pub demand_1_starts : Good none
demand_1_starts = none_good

pub demand_1_keeps : (s : Session) (o : Operation) → Good s → Given o → Good (outcome s o).session
demand_1_keeps s (load b) g h = load_good s b g h
demand_1_keeps s (rest v) g h = rest_good s g v
demand_1_keeps s (vector e v) g h = by_good e s g v
demand_1_keeps s (history ws bs fs) g h = g
demand_1_keeps s (list ns ts) g h = g
demand_1_keeps s (records room) g h = g
demand_1_keeps s (ask n) g h = g
demand_1_keeps s (trace n t room) g h = g
demand_1_keeps s (bench v order k room) g h = bench_good s g v order k room

-- Demand 2. "A card is accepted exactly when document 01 allows it"; each number exactly when it gives it
pub demand_2_accepts : (old : Session) (b : List ℕ) → Bytes b → Accepts old b
demand_2_accepts old b h = record {
  taken_if = load_takes old b h;
  taken_only = λ k e. (load_taken old b h k e).0;
  refused_if = load_refuses old b h;
  refused_only = load_refused old b h;
}

-- "both engines, the step list and the bit-fields": they leave the same session, whatever the vector
pub demand_2_engines : (s : Session) → Good s → (v : List ℕ) → (vector_by Steps s v).session ≡ (vector_by Fields s v).session
demand_2_engines s g v = same_session Steps s g v

-- "a rest vector comes first. It puts every net at its settled value: each gate equals its function of its own pins. After a rest the history is flat and equals the before values."
pub demand_2_rest : (s : Session) → Good s → s.loaded ≡ true → (u : List ℕ) → Vector s.inputs u
    → let left = (rest_of s u).session in
    Rest (card_of s) (given_to (card_of s) u) (λ n. get_or left.before n false) × ((n time : ℕ) → n < s.nets → time < 64 → bit (get_or left.words n 0) time ≡ get_or left.before n false)
demand_2_rest s g l u fits =
    let h = g.card l in
    let few = (card_fits s h).fits.few in (
      subst (λ new. Rest (card_of s) new (λ n. get_or (rest_of s u).session.before n false)) (λ i n. given_card s h u n i) (rest_settles s g l u fits),
      λ n time b q. rest_flat s g l u fits n time (omega (arith, nets_are s h)) q,
    )

-- vectors by engines in any mixture leave what the same vectors by fields leave
mixed : (ts : List Turn) (s : Session) → Good s → after_by s ts ≡ after s (vectors ts)
unfolding after_by after
mixed [] s g = refl
mixed (t ∷ ts) s g =
    mixed ts (vector_by t.engine s t.given).session (by_good t.engine s g t.given) ∙ ap (λ x. after x (vectors ts)) (same_session t.engine s g t.given)

vectors_more : (ts : List Turn) (t : Turn) → vectors (ts ++ (t ∷ [])) ≡ vectors ts ++ (t.given ∷ [])
vectors_more [] t = refl
vectors_more (x ∷ ts) t = ap (λ l. x.given ∷ l) (vectors_more ts t)

mixed_more : (ts : List Turn) (t : Turn) (s : Session) → Good s → after_by s (ts ++ (t ∷ [])) ≡ after s (vectors ts ++ (t.given ∷ []))
mixed_more ts t s g = mixed (ts ++ (t ∷ [])) s g ∙ ap (after s) (vectors_more ts t)

-- "For each accepted card and each vector in turn, both engines give every net the value at every time that the unit-delay rule gives it, from a settled
-- rest vector": after a rest and any vectors, each by either engine, the words are the rule's for the last vector, from the state that the earlier ones left
-- of the rest; and so are the before values
pub demand_2_values : (s : Session) → Good s → s.loaded ≡ true → (u : List ℕ) → Vector s.inputs u → (start : ℕ → Bool) → Rest (card_of s) (given_to (card_of s) u) start
    → (ts : List Turn) → ((v : List ℕ) → v ∈ vectors ts → Vector s.inputs v) → (t : Turn) → Vector s.inputs t.given → (n : ℕ) → n < s.nets
    → let left = after_by (rest_of s u).session (ts ++ (t ∷ [])) in
    let before = state_after (card_of s) start (vectors ts) in
    ((time : ℕ) → time < 64 → bit (get_or left.words n 0) time ≡ value (card_of s) before (given_to (card_of s) t.given) n time) × (get_or left.before n false ≡ before n)
demand_2_values s g l u fits start r ts all t last n b =
    let same = mixed_more ts t (rest_of s u).session (rest_good s g u) in
    let rule = sequence_rule s g l u fits start r (vectors ts) all t.given last n b in
    (λ time q. ap (λ x. bit (get_or x.words n 0) time) same ∙ rule.0 time q, ap (λ x. get_or x.before n false) same ∙ rule.1)

-- What a history hands out then: "word, before value (the one from ahead of that word's time 0), flag"

shown : {c : List Net} {inputs : ℕ} {state : ℕ → Bool} (s : Session) → Stands c inputs state s → (before : ℕ → Bool) (values : ℕ → ℕ → Bool)
    → ((n : ℕ) → n < length c → ((t : ℕ) → t < 64 → bit (get_or s.words n 0) t ≡ values n t) × (get_or s.before n false ≡ before n))
    → (words befores flags : List ℕ) → Roomy (length c) words befores flags → HandsOut c before values (history_of s words befores flags)
shown {c} s at before values is words befores flags room =
    let nets : s.nets ≡ length c = nets_are s (at.good.card (at.good.rest at.rested).0) ∙ ap length at.same_card in
    let ok = (history_0 s words befores flags).1 (at.rested, subst (λ k. Roomy k words befores flags) (sym nets) room) in
    let net : (n : ℕ) → n < length c → n < s.nets = λ n l. omega (arith, nets) in
    let shows = history_shows s at.good at.rested words befores flags ok in
    record {
      number = ok;
      count = history_count s words befores flags ok ∙ nets;
      words = λ n t l b. ap (λ w. bit w t) (shows n (net n l)).0 ∙ (is n l).0 t b;
      befores = λ n l. (shows n (net n l)).1 ∙ ap val (is n l).1;
      flags = λ n l. (shows n (net n l)).2 ∙ flag_cong _ _ _ _ (is n l).1 (is n l).0;
    }

ended : (s : Session) (n : ℕ) → bit (get_or s.words n 0) 63 ≡ ends s n
unfolding ends
ended s n = refl

module _ (s : Session) (g : Good s) (l : s.loaded ≡ true) (u : List ℕ) (fits : Vector s.inputs u) (start : ℕ → Bool) (r : Rest (card_of s) (given_to (card_of s) u) start) where
  -- after the rest alone all is flat, and no flag is raised
  pub demand_2_flat : (words befores flags : List ℕ) → Roomy (length (card_of s)) words befores flags
      → let told = history_of (rest_of s u).session words befores flags in
      HandsOut (card_of s) start (λ n t. start n) told × ((n : ℕ) → n < length (card_of s) → get_or told.flags n 0 ≡ 0)
  demand_2_flat words befores flags room = (out, λ n b. out.flags n b ∙ flat_flag (start n))
    where
      left : Session
      left = (rest_of s u).session

      stands : Stands (card_of s) s.inputs start left
      stands = rest_stands s g l u fits start r

      flat : (n t : ℕ) → n < length (card_of s) → t < 64 → bit (get_or left.words n 0) t ≡ get_or left.before n false
      flat n t b q = rest_flat s g l u fits n t (omega (arith, (card_fits s (g.card l)).fits.few)) q

      settled : (n : ℕ) → n < length (card_of s) → get_or left.before n false ≡ start n
      settled n b = sym (flat n 63 b (lit< tt)) ∙ ended left n ∙ stands.ends_are n b

      out : HandsOut (card_of s) start (λ n t. start n) (history_of left words befores flags)
      out = shown left stands start (λ n t. start n) (λ n b. (λ t q. flat n t b q ∙ settled n b, settled n b)) words befores flags room

  -- after vectors, each by either engine, it is the rule's for the last one, from the state that the earlier ones left of the rest
  pub demand_2_history : (ts : List Turn) → ((v : List ℕ) → v ∈ vectors ts → Vector s.inputs v) → (t : Turn) → Vector s.inputs t.given
      → (words befores flags : List ℕ) → Roomy (length (card_of s)) words befores flags
      → let before = state_after (card_of s) start (vectors ts) in
      HandsOut (card_of s) before (value (card_of s) before (given_to (card_of s) t.given)) (history_of (after_by (rest_of s u).session (ts ++ (t ∷ []))) words befores flags)
  demand_2_history ts all t last words befores flags room =
      let same = mixed_more ts t (rest_of s u).session (rest_good s g u) in
      let stands = subst (Stands (card_of s) s.inputs _) (sym same) (sequence_stands s g l u fits start r (vectors ts) all t.given last) in
      let nets = nets_are s (g.card l) in
      shown _ stands _ _ (λ n b. demand_2_values s g l u fits start r ts all t last n (omega (arith, nets, b))) words befores flags room

  -- and each of them is answered 0
  pub demand_2_taken : (ts : List Turn) → ((v : List ℕ) → v ∈ vectors ts → Vector s.inputs v) → (t : Turn) → Vector s.inputs t.given
      → answer_number (vector_by t.engine (after_by (rest_of s u).session ts) t.given).answer ≡ 0
  demand_2_taken ts all t last =
      let left = after_by (rest_of s u).session ts in
      let stands = subst (Stands (card_of s) s.inputs _) (sym (mixed ts (rest_of s u).session (rest_good s g u))) (after_stands (rest_stands s g l u fits start r) (vectors ts) all) in
      ap (λ m. answer_number m.answer) (by_takes t.engine left stands.good stands.rested t.given (subst (λ k. Vector k t.given) (sym stands.same_inputs) last))

-- Demand 2 in one, from the bytes to the values. A session that holds a card runs it
card_runs : (s : Session) → Good s → s.loaded ≡ true → CardRuns s (card_of s)
card_runs s g l = record {
  settles = λ u f. there u (here u f);
  rests = λ u f. ap (λ m. m.answer) (rest_takes s u l (here u f));
  flat = λ u f start r. demand_2_flat s g l u (here u f) start r;
  takes = λ u f ts all t last. demand_2_taken s g l u (here u f) (there u (here u f)).0 (there u (here u f)).1 ts (λ v m. here v (all v m)) t (here t.given last);
  shows = λ u f start r ts all t last. demand_2_history s g l u (here u f) start r ts (λ v m. here v (all v m)) t (here t.given last);
}
  where
    here : (v : List ℕ) → Vector (inputs_of (card_of s)) v → Vector s.inputs v
    here v f = subst (λ k. Vector k v) (sym (inputs_are s (g.card l))) f

    there : (u : List ℕ) → Vector s.inputs u → (start : ℕ → Bool) × Rest (card_of s) (given_to (card_of s) u) start
    there u f = (λ n. get_or (rest_of s u).session.before n false, (demand_2_rest s g l u f).0)

-- "For each accepted card": bytes that document 01 allows are loaded over any session, the count is that of their card's nets, and the card runs
pub demand_2_card : (old : Session) (b : List ℕ) → Bytes b → (a : Allowed b) → ((load_of old b).answer ≡ Ok (length a.card)) × CardRuns (load_of old b).session a.card
demand_2_card old b h a =
    let took = load_takes old b h a in
    let runs = subst (CardRuns (session_of a.card)) (session_card a.card a.accepted) (card_runs (session_of a.card) (taken_good a.card a.accepted) (loaded_is (session_of a.card) (session_holds a.card a.accepted))) in
    (ap (λ x. x.answer) took, subst (λ x. CardRuns x.session a.card) (sym took) runs)

-- Demand 3. "On any rested card, with any vector that isn't refused, in any order that has each step once and no step before one whose value it reads, each
-- step gives its proper value when it is reached, and the whole run ends with the rule's history and state."
pub demand_3_order : (s : Session) → Good s → s.rested ≡ true → (v order : List ℕ) → GoodOrder (card_of s) (steps_of (card_of s) order) → AnyOrder s (given s.kinds v) (steps_of (card_of s) order)
demand_3_order s g r v order good = run_any_order s g r (given s.kinds v) (steps_of (card_of s) order) good

-- "The steps done number exactly the pairs of a gate and a time t that some chain of t gates joins to an input or constant."
pub demand_3_count : (s : Session) → Good s → s.rested ≡ true → (v : List ℕ) → Vector s.inputs v
    → (k : ℕ) × ((steps_vector_of s v).answer ≡ Ok k) × Number (Joined (card_of s)) k
demand_3_count s g r v fits =
    ((ran_along s (given s.kinds v) (step_list (card_of s))).count, ap (λ m. m.answer) (steps_takes s v r fits), steps_number s g r (given s.kinds v))

-- "An order is turned away, by 15, 16 or 17, exactly when it isn't one of these."
module _ (s : Session) (g : Good s) (rested : s.rested ≡ true) (v : List ℕ) (fits : Vector s.inputs v) (order : List ℕ) (k : ℕ) (room : List ℕ) where
  abbrev c : List Net
  c = card_of s

  card : HasCard s
  card = g.card (g.rest rested).0

  turned : (why : Refusal) → OrderFault why → BenchGets s v order k room why → TurnedAway s v order k room
  turned why f b = record { why = why; fault = f; refused = ap (λ x. x.moved.answer) (bench_refuses s g v order k room why b) }

  turns_away : ¬ GoodOrder c (steps_of c order) → TurnedAway s v order k room
  turns_away n = go (order_judged c order) (judgement c card.accepted.free (card_fits s card).pinned order)
    where
      go : (j : Verdict) → Judgement c card.accepted.free (card_fits s card).pinned order j → TurnedAway s v order k room
      go j (judged-15 l) = turned OrderLength fault_15 (gets_15 rested fits l)
      go j (judged-16 l e) = turned OrderEntry fault_16 (gets_16 rested fits l (λ x. e (x.below, x.once)))
      go j (judged-17 l b o e) = turned OrderEarly fault_17 (gets_17 rested fits l (record { below = b; once = o }) e)
      go j (judged-taken good) = absurd (n good)

  fault_number : {why : Refusal} → OrderFault why → (15 ≤ number_of why) × (number_of why ≤ 17)
  fault_number fault_15 = (omega arith, omega arith)
  fault_number fault_16 = (omega arith, omega arith)
  fault_number fault_17 = (omega arith, omega arith)

  takes_good : GoodOrder c (steps_of c order) → ¬ TurnedAway s v order k room
  takes_good good t = go t.why (fault_number t.fault) (bench_refused_lem s g v order k room t.why t.refused).0
    where
      fit : Fit c card.accepted.free (card_fits s card).pinned order
      fit = good_fit c card.accepted.free (card_fits s card).pinned order good

      go : (why : Refusal) → (15 ≤ number_of why) × (number_of why ≤ 17) → BenchGets s v order k room why → ⊥
      go why n (gets_vector (gets_12 e)) = omega (arith, n.0)
      go why n (gets_vector (gets_10 e l)) = omega (arith, n.0)
      go why n (gets_vector (gets_11 e l b m x)) = omega (arith, n.0)
      go why n (gets_15 e w l) = l fit.long
      go why n (gets_16 e w l x) = x (record { below = fit.entries; once = fit.once })
      go why n (gets_17 e w l x y) = y fit.after
      go why n (gets_19 e w o l) = omega (arith, n.1)
      go why n (gets_18 e w o l b) = omega (arith, n.1)

  pub demand_3_refusals : (GoodOrder c (steps_of c order) → ¬ TurnedAway s v order k room) × (¬ GoodOrder c (steps_of c order) → TurnedAway s v order k room)
  demand_3_refusals = (takes_good, turns_away)

  -- "It takes a vector, an order and a number k, and does the first k steps."
  module _ (good : GoodOrder c (steps_of c order)) (asked : k ≤ length order) where
    given_same : given s.kinds v ≡ given_to c v
    given_same = λ i n. given_card s card v n i

    whole : length order ≡ step_count s
    whole = (good_fit c card.accepted.free (card_fits s card).pinned order good).long

    doing : step_count s ≤ length room → Doing s v order k room
    doing roomy = record { rested = rested; vector = fits; order_good = good; asked = omega (arith, whole); roomy = roomy }

    -- "It writes one byte for each step number: the step's value if it is among the first k, else 2."
    pub demand_3_bench_values : step_count s ≤ length room → BenchValues s v order k room
    demand_3_bench_values roomy = record {
      done = bench_answers s g v order k room (doing roomy);
      first = λ e m. let step = step_at (step_list c) e in bench_proper s g v order k room (doing roomy) e m ∙ ap (λ new. val (value c (ends s) new step.net step.time)) given_same;
      others = bench_others s g v order k room (doing roomy);
    }

    -- k the whole list
    pub demand_3_bench_whole : step_count s ≤ length room → k ≡ length order → BenchWhole s v order k room
    demand_3_bench_whole roomy all =
        let left = bench_whole s g v order k room (doing roomy) (all ∙ whole) in
        let same : (bench_of s v order k room).moved.session ≡ (vector_of s v).session = ap (λ m. m.session) left ∙ sym (ap (λ m. m.session) (vector_takes s v rested fits)) in
        record {
          as_vector = same;
          history = λ n l t b. ap (λ x. bit (get_or x.words n 0) t) same ∙ (vector_rule s g rested v fits n l).0 t b ∙ ap (λ new. value c (ends s) new n t) given_same;
          before = λ n l. ap (λ x. get_or x.before n false) same ∙ (vector_rule s g rested v fits n l).1;
          count = (step_count s, ap (λ m. m.answer) left, list_number c card.accepted.free (card_fits s card).pinned);
        }

    -- "The session moves only when k is the whole list": for a smaller k it stays
    pub demand_3_bench_part : k < length order → (bench_of s v order k room).moved.session ≡ s
    demand_3_bench_part part = bench_stays s g v order k room (omega (arith, whole))
