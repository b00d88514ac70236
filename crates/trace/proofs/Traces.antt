-- What trace gives and leaves: 12, 13, 14, 18, or the nets on the way back from a change to an input, each caused by the next. Assumes nothing.
use mathlib.Core.Path.{◌≡◌, refl, sym, ap, ap₂, ◌∙◌, subst}
use mathlib.Core.Bool.{Bool, true, false, cond}
use mathlib.Core.List.{List}
use mathlib.Core.Logic.{◌↔◌}
use Prim.Native.Nat.{ℕ, suc, ◌+◌, ◌-◌, ◌≤◌, ◌<◌}
use native.Mathlib.Omega.{arith}
use native.Mathlib.Decide.{dec_lt}
use lib.Dec.{leb, ltb, eqb}
use lib.ListN.{length, get_or}
use lib.Seq.{sets}
use borrow.Author.Tests.{lt-ltb, le-ltb, le-leb, lt-leb, ltb-true}
use Rattle.lists.specs.Entries.{◌∈◌}
use Rattle.lists.specs.Filled.{filled}
use Rattle.lists.proofs.Bools.{and_both, not_both}
use Rattle.lists.proofs.Rooms.{filled_list, filled_length, filled_at, filled_past}
use Rattle.rule.specs.Net.{input, net_at, pins}
use Rattle.rule.specs.Flag.{changed_at}
use Rattle.rule.specs.Cause.{first_pin, causes}
use Rattle.rule.specs.Numbers.{answer_number, answer_count}
use Rattle.rule.specs.declared.Refusal.{Refusal}
use Rattle.rule.specs.declared.Refusal.TheVariants.{NotReady, NoSuchNet, NoChange, NoRoom}
use Rattle.rule.specs.Answers.{Answer}
use Rattle.std.specs.Prelude.{Ok, Err}
use Rattle.card.specs.Session.{card_of}
use Rattle.card.specs.Held.{HasCard}
use Rattle.card.specs.declared.Session.{Session}
use Rattle.card.proofs.Kept.{nets_are, few, card_pins}
use Rattle.session.specs.Good.{Rested, Good}
use Rattle.trace.specs.Traced.{Traced, changed_then, way_back, trace_of}
use Rattle.trace.specs.Inner.Caused.{moved_at}
use Rattle.rule.proofs.Ways.{way_length, way_first, way_next, way_on}
use Rattle.trace.proofs.Causes.{pin_changed, Cause}
use Rattle.trace.proofs.WaysBack.{entry, Changed, entry_changed, entry_cause, last_changed, last_is_input}
use Rattle.history.proofs.Ran.{holds, rule_value}
use Rattle.trace.proofs.Moved.{moved_is, pin_moved_is, pin_readable}

-- an answer that leaves the room as it was
abbrev pub unwritten : List ℕ → Answer → Traced
unwritten room a = record { answer = a; room = room }

-- the test of a change: there is none at a time over 63
module _ (s : Session) (n t : ℕ) where
  pub changed_then_lem : t < 64 → (b : Bool) → moved_at s.before s.words n t ≡ b → changed_then s n t ≡ b
  changed_then_lem l b e = rw (lt-ltb t 64 l) e

  pub late_then : 64 ≤ t → changed_then s n t ≡ false
  late_then l = rw (le-ltb t 64 l)

module _ (s : Session) (n t : ℕ) (room : List ℕ) where
  -- what trace writes
  abbrev pub written : Traced
  written = record { answer = Ok (t + 1); room = filled (λ i. get_or (way_back s n t) i 0) (t + 1) room }

  -- its tests, one after another
  abbrev by_tests : Bool → Bool → Bool → Bool → Traced
  by_tests rested net changed fits =
      cond rested (cond net (cond changed (cond fits written (unwritten room (Err NoRoom))) (unwritten room (Err NoChange))) (unwritten room (Err NoSuchNet))) (unwritten room (Err NotReady))

  by_them : trace_of s n t room ≡ by_tests s.rested (ltb n s.nets) (changed_then s n t) (leb (t + 1) (length room))
  unfolding trace_of
  by_them = refl

  at_net : s.rested ≡ true → n < s.nets → trace_of s n t room ≡ by_tests true true (changed_then s n t) (leb (t + 1) (length room))
  at_net e l = by_them ∙ ap₂ (λ b d. by_tests b d (changed_then s n t) (leb (t + 1) (length room))) e (lt-ltb n s.nets l)

  pub gives_12 : s.rested ≡ false → trace_of s n t room ≡ unwritten room (Err NotReady)
  gives_12 e = by_them ∙ ap (λ b. by_tests b (ltb n s.nets) (changed_then s n t) (leb (t + 1) (length room))) e

  pub gives_13 : s.rested ≡ true → s.nets ≤ n → trace_of s n t room ≡ unwritten room (Err NoSuchNet)
  gives_13 e l = by_them ∙ ap₂ (λ b d. by_tests b d (changed_then s n t) (leb (t + 1) (length room))) e (le-ltb n s.nets l)

  pub gives_14 : s.rested ≡ true → n < s.nets → changed_then s n t ≡ false → trace_of s n t room ≡ unwritten room (Err NoChange)
  gives_14 e l k = at_net e l ∙ ap (λ b. by_tests true true b (leb (t + 1) (length room))) k

  pub gives_18 : s.rested ≡ true → n < s.nets → changed_then s n t ≡ true → length room ≤ t → trace_of s n t room ≡ unwritten room (Err NoRoom)
  gives_18 e l k f = at_net e l ∙ ap₂ (by_tests true true) k (lt-leb (t + 1) (length room) (omega arith))

  pub gives_0 : s.rested ≡ true → n < s.nets → changed_then s n t ≡ true → t < length room → trace_of s n t room ≡ written
  gives_0 e l k f = at_net e l ∙ ap₂ (by_tests true true) k (le-leb (t + 1) (length room) (omega arith))

  -- room that holds the nets on the way back
  way_stored : t < length room → (xs : List ℕ) → xs ≡ sets room 0 (causes (card_of s) (moved_at s.before s.words) n t) → xs ≡ written.room
  unfolding way_back
  way_stored l xs e =
      let k = way_length (card_of s) (moved_at s.before s.words) n t in
      e ∙ filled_list (way_back s n t) room (omega arith) ∙ ap (λ m. filled (λ i. get_or (way_back s n t) i 0) m room) k

  pub traced : s.rested ≡ true → n < s.nets → changed_then s n t ≡ true → t < length room → (xs : List ℕ)
      → xs ≡ sets room 0 (causes (card_of s) (moved_at s.before s.words) n t) → record { answer = Ok (t + 1); room = xs } ≡ trace_of s n t room
  traced e l k f xs ex = (λ i. record { answer = Ok (t + 1); room = way_stored f xs ex i }) ∙ sym (gives_0 e l k f)

-- Each number exactly when document 01 gives it: "Trace: 12, 13, 14, 18."

pub data Ruling (s : Session) (n t : ℕ) (room : List ℕ) : Traced → Type 0 where
  not_rested : s.rested ≡ false → Ruling s n t room (unwritten room (Err NotReady))
  no_net : s.rested ≡ true → s.nets ≤ n → Ruling s n t room (unwritten room (Err NoSuchNet))
  no_change : s.rested ≡ true → n < s.nets → changed_then s n t ≡ false → Ruling s n t room (unwritten room (Err NoChange))
  too_short : s.rested ≡ true → n < s.nets → changed_then s n t ≡ true → length room ≤ t → Ruling s n t room (unwritten room (Err NoRoom))
  done : s.rested ≡ true → n < s.nets → changed_then s n t ≡ true → t < length room → Ruling s n t room (written s n t room)

module _ (s : Session) (n t : ℕ) (room : List ℕ) where
  abbrev pub left : Traced
  left = trace_of s n t room

  abbrev pub number : ℕ
  number = answer_number left.answer

  pub ruled : Ruling s n t room left
  ruled = go s.rested refl (dec_lt n s.nets) (changed_then s n t) refl (dec_lt t (length room))
    where
      go : (x : Bool) → s.rested ≡ x → Dec (n < s.nets) → (y : Bool) → changed_then s n t ≡ y → Dec (t < length room) → Ruling s n t room left
      go false e d y k f = rw (gives_12 s n t room e) (not_rested e)
      go true e (no d) y k f = let l : s.nets ≤ n = omega arith in rw (gives_13 s n t room e l) (no_net e l)
      go true e (yes d) false k f = rw (gives_14 s n t room e d k) (no_change e d k)
      go true e (yes d) true k (no f) = let l : length room ≤ t = omega arith in rw (gives_18 s n t room e d k l) (too_short e d k l)
      go true e (yes d) true k (yes f) = rw (gives_0 s n t room e d k f) (done e d k f)

  number_of : (x : Traced) → left ≡ x → number ≡ answer_number x.answer
  number_of x e = ap (λ y. answer_number y.answer) e

  -- the reason for each number
  abbrev Reason : ℕ → Type 0
  Reason k =
      cond (eqb k 12) (s.rested ≡ false)
      (cond (eqb k 13) ((s.rested ≡ true) × (s.nets ≤ n))
      (cond (eqb k 14) ((s.rested ≡ true) × (n < s.nets) × (changed_then s n t ≡ false))
      (cond (eqb k 18) ((s.rested ≡ true) × (n < s.nets) × (changed_then s n t ≡ true) × (length room ≤ t))
      (cond (eqb k 0) ((s.rested ≡ true) × (n < s.nets) × (changed_then s n t ≡ true) × (t < length room)) ⊥))))

  reason_of : (x : Traced) → Ruling s n t room x → Reason (answer_number x.answer)
  reason_of x (not_rested e) = e
  reason_of x (no_net e l) = (e, l)
  reason_of x (no_change e l k) = (e, l, k)
  reason_of x (too_short e l k f) = (e, l, k, f)
  reason_of x (done e l k f) = (e, l, k, f)

  pub reason : (k : ℕ) → number ≡ k → Reason k
  reason k q = subst Reason q (reason_of left ruled)

  pub trace_12 : (number ≡ 12) ↔ (s.rested ≡ false)
  trace_12 = (reason 12, λ e. number_of _ (gives_12 s n t room e))

  pub trace_13 : (number ≡ 13) ↔ ((s.rested ≡ true) × (s.nets ≤ n))
  trace_13 = (reason 13, λ h. number_of _ (gives_13 s n t room h.0 h.1))

  -- "Every refusal returns its number and count 0, and changes neither session nor lent memory."
  pub trace_refused : (r : Refusal) → left.answer ≡ Err r → left ≡ unwritten room (Err r)
  trace_refused r e = go left ruled e
    where
      go : (x : Traced) → Ruling s n t room x → x.answer ≡ Err r → x ≡ unwritten room (Err r)
      go x (not_rested p) q = ap (unwritten room) q
      go x (no_net p l) q = ap (unwritten room) q
      go x (no_change p l k) q = ap (unwritten room) q
      go x (too_short p l k f) q = ap (unwritten room) q
      go x (done p l k f) q = let z : ◌≡◌ {A = ℕ} 0 1 = cc in absurd (omega arith)

  module _ (ok : number ≡ 0) where
    pub wrote : left ≡ written s n t room
    wrote = let h = reason 0 ok in gives_0 s n t room h.0 h.1 h.2 h.3

    -- "It writes the nets on the way, t+1 of them."
    pub trace_length : (answer_count left.answer ≡ t + 1) × (length (way_back s n t) ≡ t + 1) × (t + 1 ≤ length left.room)
    unfolding way_back
    trace_length =
        let h = (reason 0 ok).3 in
        let k = ap (λ x. length x.room) wrote ∙ filled_length (λ i. get_or (way_back s n t) i 0) room (t + 1) in
        (ap (λ x. answer_count x.answer) wrote, way_length (card_of s) (moved_at s.before s.words) n t, omega arith)

    pub trace_at : (i : ℕ) → i ≤ t → get_or left.room i 0 ≡ get_or (way_back s n t) i 0
    trace_at i l = let h = (reason 0 ok).3 in ap (λ x. get_or x.room i 0) wrote ∙ filled_at (λ j. get_or (way_back s n t) j 0) room (t + 1) i (omega arith) (omega arith)

    -- "Lent room past the part written keeps its contents."
    pub trace_keeps_past : (i : ℕ) → t < i → get_or left.room i 0 ≡ get_or room i 0
    trace_keeps_past i l = ap (λ x. get_or x.room i 0) wrote ∙ filled_past (λ j. get_or (way_back s n t) j 0) room (t + 1) i (omega arith)

    pub trace_keeps_length : length left.room ≡ length room
    trace_keeps_length = ap (λ x. length x.room) wrote ∙ filled_length (λ i. get_or (way_back s n t) i 0) room (t + 1)

-- What a rested session's trace says, by the unit-delay rule

module _ (s : Session) (g : Good s) (rested : s.rested ≡ true) where
  abbrev run : Rested s
  run = (g.rest rested).1

  card : HasCard s
  card = holds s g rested

  -- a net changed at a time, by the rule: a history covers times 0 to 63
  abbrev pub DidChange : ℕ → ℕ → Type 0
  DidChange n t = (t < 64) × (changed_at (run.old n) (rule_value s run n) t ≡ true)

  listed_net : (n : ℕ) → n < s.nets → n < 256
  listed_net n l = omega (arith, few s card)

  pub then_is : (n t : ℕ) → n < s.nets → (changed_then s n t ≡ true) ↔ DidChange n t
  then_is n t l = (there, λ h. rw (lt-ltb t 64 h.0) (moved_is s card run n t (listed_net n l) h.0 ∙ h.1))
    where
      there : changed_then s n t ≡ true → DidChange n t
      there e =
          let h = and_both (ltb t 64) (moved_at s.before s.words n t) e in
          let b : t < 64 = ltb-true t 64 h.0 in
          (b, sym (moved_is s card run n t (listed_net n l) b) ∙ h.1)

  then_not : (n t : ℕ) → n < s.nets → (changed_then s n t ≡ false) ↔ (¬ DidChange n t)
  then_not n t l = (λ e h. not_both (changed_then s n t) ((then_is n t l).1 h) e, λ h. go (changed_then s n t) refl h)
    where
      go : (b : Bool) → changed_then s n t ≡ b → ¬ DidChange n t → b ≡ false
      go true e h = absurd (h ((then_is n t l).0 e))
      go false e h = refl

  module _ (n t : ℕ) (room : List ℕ) where
    -- "14: that net did not change at that time (times over 63 too)"
    pub trace_14 : (number s n t room ≡ 14) ↔ ((n < s.nets) × ¬ DidChange n t)
    trace_14 = (
      λ q. let h = reason s n t room 14 q in (h.1, (then_not n t h.1).0 h.2),
      λ h. number_of s n t room _ (gives_14 s n t room rested h.0 ((then_not n t h.0).1 h.1)),
    )

    pub trace_18 : (number s n t room ≡ 18) ↔ ((n < s.nets) × DidChange n t × (length room ≤ t))
    trace_18 = (
      λ q. let h = reason s n t room 18 q in (h.1, (then_is n t h.1).0 h.2, h.3),
      λ h. number_of s n t room _ (gives_18 s n t room rested h.0 ((then_is n t h.0).1 h.1) h.2),
    )

    -- entry i of the room after a trace
    abbrev pub entry_at : ℕ → ℕ
    entry_at i = get_or (left s n t room).room i 0

    pub trace_0 : (number s n t room ≡ 0) ↔ ((n < s.nets) × DidChange n t × (t < length room))
    trace_0 = (
      λ q. let h = reason s n t room 0 q in (h.1, (then_is n t h.1).0 h.2, h.3),
      λ h. number_of s n t room _ (gives_0 s n t room rested h.0 ((then_is n t h.0).1 h.1) h.2),
    )

    module _ (ok : number s n t room ≡ 0) where
      started : Changed (card_of s) run.old run.new n t
      started = let h = trace_0.0 ok in record { listed = subst (λ k. n < k) (nets_are s card) h.0; changed = h.1.1 }

      -- the way back is the rule's
      entry_is : (i : ℕ) → i ≤ t → entry_at i ≡ entry (card_of s) run.old run.new n t i
      unfolding way_back
      entry_is i l =
          trace_at s n t room ok i l
          ∙ ap (λ ns. get_or ns i 0) (way_on (card_of s) (moved_at s.before s.words) (pin_changed run.old (rule_value s run)) n t
          (λ q p u m b. pin_moved_is s card run p u (pin_readable s card q p (subst (λ f. p ∈ f q) (sym (card_pins s card)) m)) (omega (arith, (trace_0.0 ok).1.0))))

      -- the net comes first
      pub trace_starts : entry_at 0 ≡ n
      trace_starts = entry_is 0 (omega arith) ∙ way_first (card_of s) (pin_changed run.old (rule_value s run)) n t 0

      -- entry i is a net of the card that changed at time t - i
      pub trace_changed : (i : ℕ) → i ≤ t → Changed (card_of s) run.old run.new (entry_at i) (t - i)
      trace_changed i l =
          subst (λ m. Changed (card_of s) run.old run.new m (t - i)) (sym (entry_is i l))
          (entry_changed (card_of s) run.old run.new run.calm card.accepted.named n t i l started)

      -- "the gate asks the first pin that changed one unit earlier": each entry is that pin of the one ahead of it,
      pub trace_is_chain : (i : ℕ) → i < t → entry_at (suc i) ≡ first_pin (λ p. pin_changed run.old (rule_value s run) p (t - suc i)) (pins (card_of s) (entry_at i))
      trace_is_chain i l =
          entry_is (suc i) (omega arith) ∙ way_next (card_of s) (pin_changed run.old (rule_value s run)) n t i 0 l
          ∙ ap (λ m. first_pin (λ p. pin_changed run.old (rule_value s run) p (t - suc i)) (pins (card_of s) m)) (sym (entry_is i (omega arith)))

      -- and so a pin of it, a net, that changed one unit earlier
      pub trace_causes : (i : ℕ) → i < t → Cause (card_of s) run.old run.new (entry_at i) (t - suc i) (entry_at (suc i))
      trace_causes i l =
          subst (λ m. Cause (card_of s) run.old run.new m (t - suc i) (entry_at (suc i))) (sym (entry_is i (omega arith)))
          (subst (Cause (card_of s) run.old run.new (entry (card_of s) run.old run.new n t i) (t - suc i)) (sym (entry_is (suc i) (omega arith)))
          (entry_cause (card_of s) run.old run.new run.calm card.accepted.named n t i l started))

      -- "until an input at time 0 is reached"
      pub trace_ends_at_input : (net_at (card_of s) (entry_at t) ≡ input) × Changed (card_of s) run.old run.new (entry_at t) 0
      trace_ends_at_input =
          let e = sym (entry_is t (omega arith)) in (
            ap (net_at (card_of s)) (sym e) ∙ last_is_input (card_of s) run.old run.new run.calm card.accepted.named n t started,
            subst (λ m. Changed (card_of s) run.old run.new m 0) e (last_changed (card_of s) run.old run.new run.calm card.accepted.named n t started),
          )
