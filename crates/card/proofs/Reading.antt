-- A card that was read, laid out in arrays: what load's steps make of it. Assumes nothing.
use mathlib.Core.Path.{◌≡◌, refl, sym, ap, ◌∙◌, subst}
use mathlib.Core.Bool.{cond}
use mathlib.Core.List.{List}
use Prim.Native.Nat.{ℕ, ◌+◌, ◌-◌, ◌<◌}
use native.Mathlib.Decide.{dec_lt}
use native.Mathlib.Omega.{arith}
use lib.Dec.{eqb}
use lib.ListN.{length, get_or}
use borrow.Author.Tests.{eq-eqb, ne_eqb}
use Rattle.word.specs.Times.{count}
use Rattle.word.proofs.Sets.{count_cong, count_ends}
use Rattle.rule.specs.Net.{Net, net_at, is_input, Pinned}
use Rattle.rule.specs.declared.Refusal.{Refusal}
use Rattle.rule.specs.declared.Refusal.TheVariants.{NoInput}
use Rattle.std.specs.Prelude.{Result, Ok, Err}
use Rattle.rule.proofs.Nets.{past_input}
use Rattle.card_wiring.specs.declared.Wired.{Wired}
use Rattle.card_wiring.specs.Layout.{kinds_of, types_of, counts_of, places_of}
use Rattle.card_wiring.specs.Inner.Wires.{Fits, Wires}
use Rattle.card_wiring.specs.Wired.{set_words, verdict_of, wired_of}
use Rattle.card_wiring.specs.Inner.Wired.{arrays_wired}
use Rattle.card_wiring.proofs.Judged.{arrays_judged_lem as wired-judged, wired_passed}
use Rattle.card_wiring.proofs.Layouts.{kind_input, wires_laid, kind_at, kind_past}
use Rattle.inputs.specs.Inputs.{input_nets}
use Rattle.card_records.specs.declared.Parsed.{Parsed}
use Rattle.card_records.specs.Written.{Bytes}
use Rattle.card_records.specs.Scan.{Meaning, Stops, Means, meaning}
use Rattle.card_records.specs.Inner.Reading.{parsed_of}
use Rattle.card_records.proofs.Fitted.{read_fits}
use Rattle.card.specs.declared.Session.{Session}
use Rattle.card.specs.Session.{inputs_of, session_of}
use Rattle.rule.specs.declared.Refusal.{Refusal}
use Rattle.rule.specs.Steps.{gate_order}
use Rattle.card_wiring.specs.Layout.{padded}
use Rattle.card.specs.Load.{refusal, concluded, judged, load_meant, load_of}
use Rattle.card.specs.Inner.Arrays.{concluded_from, arrays_session, arrays_concluded, arrays_judged}

-- What reading came to

pub stopped_by : (m : Meaning) (r : Refusal) → parsed_of m ≡ Err r → m ≡ Stops r
stopped_by (Stops q) r e = let h : q ≡ r = cc in ap Stops h
stopped_by (Means c) r e = let z : ◌≡◌ {A = ℕ} 0 1 = cc in absurd (omega arith)

-- a card that bytes mean, and what it is laid out in
pub record Card (m : Meaning) (p : Parsed) : Type 0 where
  pub nets : List Net
  pub means : m ≡ Means nets
  pub arrays : p ≡ record { nets = length nets; kinds = kinds_of nets; types = types_of nets; counts = counts_of nets; places = places_of nets }

pub read_card : (m : Meaning) (p : Parsed) → parsed_of m ≡ Ok p → Card m p
read_card (Stops q) p e = let z : ◌≡◌ {A = ℕ} 0 1 = cc in absurd (omega arith)
read_card (Means c) p e = record { nets = c; means = refl; arrays = cc }

-- The inputs of the arrays are the card's

pub inputs_laid : (c : List Net) → Fits c → (n : ℕ) → eqb (get_or (kinds_of c) n 0) 1 ≡ is_input (net_at c n)
inputs_laid c fit n = go (dec_lt n (length c))
  where
    go : Dec (n < length c) → eqb (get_or (kinds_of c) n 0) 1 ≡ is_input (net_at c n)
    go (yes l) = ap (λ k. eqb k 1) (kind_at c fit n l) ∙ kind_input (net_at c n)
    go (no l) = ap (λ k. eqb k 1) (kind_past c fit n (omega arith)) ∙ sym (past_input c n (omega arith))

pub inputs_counted : (c : List Net) → Fits c → count (λ g. eqb (get_or (kinds_of c) g 0) 1) (length c) ≡ inputs_of c
unfolding inputs_of
inputs_counted c fit = count_cong _ _ (length c) (λ n l. inputs_laid c fit n)

-- past the card there are none
pub inputs_all_counted : (c : List Net) → Fits c → count (λ g. eqb (get_or (kinds_of c) g 0) 1) 256 ≡ inputs_of c
unfolding inputs_of
inputs_all_counted c fit =
    let few = fit.few in
    let x : length c + (256 - length c) ≡ 256 = omega arith in
    count_cong _ (λ n. is_input (net_at c n)) 256 (λ n l. inputs_laid c fit n)
    ∙ ap (count (λ n. is_input (net_at c n))) (sym x)
    ∙ count_ends (λ n. is_input (net_at c n)) (length c) (256 - length c) (past_input c)

-- The arrays of a card that was read, and what the steps of the judgement are on them

pub record Laid (c : List Net) (n : ℕ) (kinds types counts places : List ℕ) : Type 0 where
  pub fits : Fits c
  pub pinned : Pinned c
  pub size : length c ≡ n
  pub kinds_laid : kinds ≡ kinds_of c
  pub types_laid : types ≡ types_of c
  pub counts_laid : counts ≡ counts_of c
  pub places_laid : places ≡ places_of c

-- What the judgement's functions find of any arrays

module _ (old : Session) (n : ℕ) (kinds types counts places : List ℕ) where
  module _ (handed inputs : ℕ) (r : Result Wired Refusal) (wired : r ≡ arrays_wired counts places n) where
    abbrev fresh : List ℕ → Wired → Session
    fresh = arrays_session n inputs kinds types counts places

    pub conclude_faulty : (why : Refusal) → r ≡ Err why → refusal old why ≡ arrays_concluded old handed inputs n kinds types counts places
    unfolding arrays_concluded
    conclude_faulty why e = ap (concluded_from old (fresh (input_nets kinds 256)) handed) (sym e ∙ wired)

    pub conclude_passed : (w : Wired) → r ≡ Ok w → (feeds : List ℕ) → feeds ≡ input_nets kinds 256
        → record { answer = Ok handed; session = fresh feeds w } ≡ arrays_concluded old handed inputs n kinds types counts places
    unfolding arrays_concluded
    conclude_passed w e feeds fed =
        ap (λ f. concluded_from old (fresh f) handed (Ok w)) fed ∙ ap (concluded_from old (fresh (input_nets kinds 256)) handed) (sym e ∙ wired)

  module _ (inputs : ℕ) (counted : inputs ≡ count (λ g. eqb (get_or kinds g 0) 1) n) where
    pub judge_none : inputs ≡ 0 → refusal old NoInput ≡ arrays_judged old n kinds types counts places
    unfolding arrays_judged
    judge_none e = rw (eq-eqb (count (λ g. eqb (get_or kinds g 0) 1) n) 0 (sym counted ∙ e))

    pub judge_some : (inputs ≡ 0 → ⊥) → arrays_concluded old n inputs n kinds types counts places ≡ arrays_judged old n kinds types counts places
    unfolding arrays_judged
    judge_some some =
        rw (ne_eqb (count (λ g. eqb (get_or kinds g 0) 1) n) 0 (λ z. some (counted ∙ z))) (ap (λ k. arrays_concluded old n k n kinds types counts places) counted)

-- where a card is laid out in them it is the judgement of the card

module _ (old : Session) (c : List Net) where
  fresh_card : Wired → Session
  fresh_card = arrays_session (length c) (inputs_of c) (kinds_of c) (types_of c) (counts_of c) (places_of c) (input_nets (kinds_of c) 256)

  laid_fresh : (w : Wired) → wired_of c ≡ Ok w → fresh_card w ≡ session_of c
  unfolding session_of fresh_card
  laid_fresh w e =
      let kept : w ≡ record { gates = length (gate_order c); order = padded (gate_order c); sets = set_words c } = let k = sym e ∙ wired_passed c (ap verdict_of e) in cc in
      ap fresh_card kept

  concluded_card : (handed : ℕ) (r : Result Wired Refusal) → wired_of c ≡ r
      → concluded_from old fresh_card handed r ≡ concluded old (session_of c) handed (verdict_of r)
  concluded_card handed (Err why) e = refl
  concluded_card handed (Ok w) e = ap (λ x. record { answer = Ok handed; session = x }) (laid_fresh w e)

  judged_card : Fits c → Pinned c → arrays_judged old (length c) (kinds_of c) (types_of c) (counts_of c) (places_of c) ≡ judged old c
  unfolding arrays_judged arrays_concluded judged fresh_card
  judged_card fits pinned =
      rw (inputs_counted c fits, wired-judged c fits pinned) (ap (cond (eqb (inputs_of c) 0) (refusal old NoInput)) (concluded_card (length c) (wired_of c) refl))

pub judge_laid : (old : Session) {c : List Net} {n : ℕ} {kinds types counts places : List ℕ} → Laid c n kinds types counts places
    → arrays_judged old n kinds types counts places ≡ judged old c
judge_laid old {c} laid =
    rw (laid.kinds_laid, laid.types_laid, laid.counts_laid, laid.places_laid, ← laid.size) (judged_card old c laid.fits laid.pinned)

-- Load, from what reading came to

module _ (old : Session) (s : List ℕ) (r : Result Parsed Refusal) (parsed : r ≡ parsed_of (meaning s)) where
  pub load_stopped : (why : Refusal) → r ≡ Err why → refusal old why ≡ load_of old s
  unfolding load_of
  load_stopped why e = sym (ap (load_meant old) (stopped_by (meaning s) why (sym parsed ∙ e)))

  module _ (bytes : Bytes s) (p : Parsed) (e : r ≡ Ok p) where
    abbrev found : Card (meaning s) p
    found = read_card (meaning s) p (sym parsed ∙ e)

    load_laid : Laid found.nets p.nets p.kinds p.types p.counts p.places
    load_laid =
        let f = read_fits s bytes found.nets found.means in
        record {
          fits = f.fits;
          pinned = f.pinned;
          size = sym (ap (λ x. x.nets) found.arrays);
          kinds_laid = ap (λ x. x.kinds) found.arrays;
          types_laid = ap (λ x. x.types) found.arrays;
          counts_laid = ap (λ x. x.counts) found.arrays;
          places_laid = ap (λ x. x.places) found.arrays;
        }

    pub load_wires : Wires p.counts p.places p.nets
    load_wires =
        let l = load_laid in
        subst (λ x. Wires x p.places p.nets) (sym l.counts_laid)
        (subst (λ y. Wires (counts_of found.nets) y p.nets) (sym l.places_laid) (subst (Wires (counts_of found.nets) (places_of found.nets)) l.size (wires_laid found.nets l.fits)))

    pub load_judged : arrays_judged old p.nets p.kinds p.types p.counts p.places ≡ load_of old s
    unfolding load_of
    load_judged = judge_laid old load_laid ∙ sym (ap (load_meant old) found.means)
