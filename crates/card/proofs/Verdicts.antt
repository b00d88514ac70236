-- Load takes a card exactly when document 01 allows it, and gives each number exactly when document 01 gives it, in its order. Assumes nothing.
use mathlib.Core.Path.{◌≡◌, refl, sym, ap, ◌∙◌, subst}
use mathlib.Core.Bool.{Bool, true, false, cond}
use mathlib.Core.List.{List}
use mathlib.Core.Logic.{◌⊎◌, inl, inr}
use Prim.Native.Nat.{ℕ}
use native.Mathlib.Omega.{arith}
use lib.Dec.{eqb, ltb}
use lib.ListN.{length}
use Rattle.rule.specs.Net.{Net, Named, Pinned}
use Rattle.rule.specs.Level.{depth, Looped}
use Rattle.rule.specs.Steps.{gate_order, step_list}
use Rattle.rule.specs.declared.Refusal.{Refusal}
use Rattle.rule.specs.declared.Refusal.TheVariants.{NoInput, NoSuchPin, Looped as LoopedCard, TooDeep, TooManySteps}
use Rattle.std.specs.Prelude.{Result, Ok, Err}
use Rattle.card_wiring.specs.declared.Wired.{Wired}
use Rattle.card_wiring.specs.Wired.{pins_fit, most_back, set_words, passed_wiring, refused_wiring as faulty, verdict_of, wired_of}
use Rattle.card_records.specs.Scan.{Meaning, Stops, Means, meaning}
use Rattle.card_records.specs.Written.{Bytes}
use Rattle.card_records.proofs.Cards.{read_back, written, why, stops}
use Rattle.card_records.proofs.Fitted.{read_fits}
use Rattle.card.specs.declared.Session.{Session}
use Rattle.card.specs.Loaded.{Loaded}
use Rattle.card.specs.Session.{inputs_of, session_of}
use Rattle.card.specs.Load.{refusal, taken, concluded, judged, load_meant, load_of}
use Rattle.card.specs.Allowed.{Fed, Deep, Long, Accepted, Allowed, Writes, LoadGets, gets_stopped, gets_9, gets_4, gets_5, gets_6, gets_7}
use Rattle.card.specs.Held.{HasCard, Carded}
use Rattle.card.proofs.Kept.{session_holds, taken_carded}
use Rattle.card.proofs.Tests.{Tells, tells_true, tells_false, fed_tells, fed_or_not, named_tells, loop_tells, deep_tells, long_tells}

-- The judgement of a card that was read

module _ (old : Session) (c : List Net) where
  -- load's tests, one after another
  abbrev by_tests : Bool → Bool → Bool → Bool → Bool → Loaded
  by_tests unfed named looped deep long =
      cond unfed (refusal old NoInput)
      (cond named (cond looped (refusal old LoopedCard) (cond deep (refusal old TooDeep) (cond long (refusal old TooManySteps) (taken c)))) (refusal old NoSuchPin))

  judged_tests : judged old c ≡ by_tests (eqb (inputs_of c) 0) (pins_fit c) (ltb (length c) (most_back c)) (ltb 63 (depth c)) (ltb 4096 (length (step_list c)))
  unfolding judged wired_of
  judged_tests =
      ap (cond (eqb (inputs_of c) 0) (refusal old NoInput))
      (go (passed_wiring (gate_order c) (set_words c)) refl (pins_fit c) (ltb (length c) (most_back c)) (ltb 63 (depth c)) (ltb 4096 (length (step_list c))))
    where
      go : (w : Result Wired Refusal) → verdict_of w ≡ Ok tt → (a b d e : Bool)
          → concluded old (session_of c) (length c) (verdict_of (cond a (cond b (faulty LoopedCard) (cond d (faulty TooDeep) (cond e (faulty TooManySteps) w))) (faulty NoSuchPin)))
          ≡ cond a (cond b (refusal old LoopedCard) (cond d (refusal old TooDeep) (cond e (refusal old TooManySteps) (taken c)))) (refusal old NoSuchPin)
      go w h false b d e = refl
      go w h true true d e = refl
      go w h true false true e = refl
      go w h true false false true = refl
      go w h true false false false = ap (concluded old (session_of c) (length c)) h

  module _ (pinned : Pinned c) where
    pub judged_9 : ¬ Fed c → judged old c ≡ refusal old NoInput
    judged_9 h = judged_tests ∙ rw (tells_true (eqb (inputs_of c) 0) (¬ Fed c) (fed_tells c) h)

    some_fed : Fed c → eqb (inputs_of c) 0 ≡ false
    some_fed f = tells_false (eqb (inputs_of c) 0) (¬ Fed c) (fed_tells c) (λ n. n f)

    pub judged_4 : Fed c → ¬ Named c → judged old c ≡ refusal old NoSuchPin
    judged_4 f n = judged_tests ∙ rw (some_fed f, tells_false (pins_fit c) (Named c) (named_tells c) n)

    pub judged_5 : Fed c → Named c → Looped c → judged old c ≡ refusal old LoopedCard
    judged_5 f n l = judged_tests ∙ rw (some_fed f, tells_true (pins_fit c) (Named c) (named_tells c) n, tells_true (ltb (length c) (most_back c)) (Looped c) (loop_tells c) l)

    pub judged_6 : Fed c → Named c → ¬ Looped c → Deep c → judged old c ≡ refusal old TooDeep
    judged_6 f n l d =
        judged_tests
        ∙ rw (
          some_fed f,
          tells_true (pins_fit c) (Named c) (named_tells c) n,
          tells_false (ltb (length c) (most_back c)) (Looped c) (loop_tells c) l,
          tells_true (ltb 63 (depth c)) (Deep c) (deep_tells c) d,
        )

    pub judged_7 : Fed c → Named c → ¬ Looped c → ¬ Deep c → Long c → judged old c ≡ refusal old TooManySteps
    judged_7 f n l d k =
        judged_tests
        ∙ rw (
          some_fed f,
          tells_true (pins_fit c) (Named c) (named_tells c) n,
          tells_false (ltb (length c) (most_back c)) (Looped c) (loop_tells c) l,
          tells_false (ltb 63 (depth c)) (Deep c) (deep_tells c) d,
          tells_true (ltb 4096 (length (step_list c))) (Long c) (long_tells c l pinned) k,
        )

    pub judged_0 : Accepted c → judged old c ≡ taken c
    judged_0 a =
        judged_tests
        ∙ rw (
          some_fed a.fed,
          tells_true (pins_fit c) (Named c) (named_tells c) a.named,
          tells_false (ltb (length c) (most_back c)) (Looped c) (loop_tells c) a.free,
          tells_false (ltb 63 (depth c)) (Deep c) (deep_tells c) a.shallow,
          tells_false (ltb 4096 (length (step_list c))) (Long c) (long_tells c a.free pinned) a.short,
        )

-- What load gives, with its reason

pub data Ruling (old : Session) (s : List ℕ) : Loaded → Type 0 where
  refuses : (r : Refusal) → LoadGets s r → Ruling old s (refusal old r)
  takes : (a : Allowed s) → Ruling old s (taken a.card)

module _ (old : Session) (s : List ℕ) (c : List Net) (w : Writes s c) (pinned : Pinned c) where
  abbrev Ruled : Type 0
  Ruled = Ruling old s (judged old c)

  rule_7 : Fed c → Named c → ¬ Looped c → ¬ Deep c → (b : Bool) → Tells b (Long c) → Ruled
  rule_7 f n l d true t = subst (Ruling old s) (sym (judged_7 old c pinned f n l d (t.yes_is refl))) (refuses TooManySteps (gets_7 c w f n l d (t.yes_is refl)))
  rule_7 f n l d false t =
      let a : Accepted c = record { legible = w.legible; fed = f; named = n; free = l; shallow = d; short = t.no_is refl } in
      subst (Ruling old s) (sym (judged_0 old c pinned a)) (takes (record { card = c; bytes = w.bytes; accepted = a }))

  rule_6 : Fed c → Named c → ¬ Looped c → (b : Bool) → Tells b (Deep c) → Ruled
  rule_6 f n l true t = subst (Ruling old s) (sym (judged_6 old c pinned f n l (t.yes_is refl))) (refuses TooDeep (gets_6 c w f n l (t.yes_is refl)))
  rule_6 f n l false t = rule_7 f n l (t.no_is refl) (ltb 4096 (length (step_list c))) (long_tells c l pinned)

  rule_5 : Fed c → Named c → (b : Bool) → Tells b (Looped c) → Ruled
  rule_5 f n true t = subst (Ruling old s) (sym (judged_5 old c pinned f n (t.yes_is refl))) (refuses LoopedCard (gets_5 c w f n (t.yes_is refl)))
  rule_5 f n false t = rule_6 f n (t.no_is refl) (ltb 63 (depth c)) (deep_tells c)

  rule_4 : Fed c → (b : Bool) → Tells b (Named c) → Ruled
  rule_4 f true t = rule_5 f (t.yes_is refl) (ltb (length c) (most_back c)) (loop_tells c)
  rule_4 f false t = subst (Ruling old s) (sym (judged_4 old c pinned f (t.no_is refl))) (refuses NoSuchPin (gets_4 c w f (t.no_is refl)))

  rule_9 : Ruled
  rule_9 = go (fed_or_not c)
    where
      go : Fed c ⊎ (¬ Fed c) → Ruled
      go (inl f) = rule_4 f (pins_fit c) (named_tells c)
      go (inr n) = subst (Ruling old s) (sym (judged_9 old c pinned n)) (refuses NoInput (gets_9 c w n))

module _ (old : Session) (s : List ℕ) (bytes : Bytes s) where
  ruled_meaning : (m : Meaning) → meaning s ≡ m → Ruling old s (load_meant old m)
  ruled_meaning (Stops r) e = refuses r (gets_stopped (why s bytes r e))
  ruled_meaning (Means c) e =
      let w = written s bytes c e in
      rule_9 old s c (record { bytes = w.0; legible = record { legal = w.1; few = w.2 } }) (read_fits s bytes c e).pinned

  pub ruled : Ruling old s (load_of old s)
  unfolding load_of
  ruled = ruled_meaning (meaning s) refl

  means : (c : List Net) → Writes s c → meaning s ≡ Means c
  means c w = ap meaning w.bytes ∙ read_back c w.legible.legal w.legible.few

  pinned_by : (c : List Net) → Writes s c → Pinned c
  pinned_by c w = (read_fits s bytes c (means c w)).pinned

  load_means : (c : List Net) → Writes s c → load_of old s ≡ judged old c
  unfolding load_of
  load_means c w = ap (load_meant old) (means c w)

  -- each number exactly when document 01 gives it
  pub load_refuses : (r : Refusal) → LoadGets s r → load_of old s ≡ refusal old r
  unfolding load_of
  load_refuses r (gets_stopped g) = ap (load_meant old) (stops s r g)
  load_refuses r (gets_9 c w n) = load_means c w ∙ judged_9 old c (pinned_by c w) n
  load_refuses r (gets_4 c w f n) = load_means c w ∙ judged_4 old c (pinned_by c w) f n
  load_refuses r (gets_5 c w f n l) = load_means c w ∙ judged_5 old c (pinned_by c w) f n l
  load_refuses r (gets_6 c w f n l d) = load_means c w ∙ judged_6 old c (pinned_by c w) f n l d
  load_refuses r (gets_7 c w f n l d k) = load_means c w ∙ judged_7 old c (pinned_by c w) f n l d k

  pub load_refused : (r : Refusal) → (load_of old s).answer ≡ Err r → LoadGets s r
  load_refused r e = go (load_of old s) ruled e
    where
      go : (x : Loaded) → Ruling old s x → x.answer ≡ Err r → LoadGets s r
      go x (refuses q g) e = let h : q ≡ r = cc in subst (LoadGets s) h g
      go x (takes a) e = let z : ◌≡◌ {A = ℕ} 0 1 = cc in absurd (omega arith)

  -- and a card is taken exactly when document 01 allows it
  pub load_takes : (a : Allowed s) → load_of old s ≡ taken a.card
  load_takes a =
      let w : Writes s a.card = record { bytes = a.bytes; legible = a.accepted.legible } in
      load_means a.card w ∙ judged_0 old a.card (pinned_by a.card w) a.accepted

  pub load_taken : (k : ℕ) → (load_of old s).answer ≡ Ok k → (a : Allowed s) × (load_of old s ≡ taken a.card)
  load_taken k e = go (load_of old s) ruled e
    where
      go : (x : Loaded) → Ruling old s x → x.answer ≡ Ok k → (a : Allowed s) × (x ≡ taken a.card)
      go x (refuses q g) e = let z : ◌≡◌ {A = ℕ} 0 1 = cc in absurd (omega arith)
      go x (takes a) e = (a, refl)

  -- a card that load takes is held
  pub load_holds : (l : Loaded) → l ≡ load_of old s → (k : ℕ) → l.answer ≡ Ok k → HasCard l.session
  load_holds l e k d =
      let t = load_taken k (ap (λ x. x.answer) (sym e) ∙ d) in
      subst (λ x. HasCard x.session) (sym (e ∙ t.1)) (session_holds t.0.card t.0.accepted)

  -- load keeps what sessions keep of a card
  pub load_carded : Carded old → Carded (load_of old s).session
  load_carded kept = go (load_of old s) ruled
    where
      go : (x : Loaded) → Ruling old s x → Carded x.session
      go x (refuses r g) = kept
      go x (takes a) = taken_carded a.card a.accepted
