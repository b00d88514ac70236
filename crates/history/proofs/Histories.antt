-- What history gives and leaves: 12, 18, or each net's word, before value and flag, which are the rule's. Assumes nothing.
use mathlib.Core.Path.{◌≡◌, refl, sym, ap, ap₂, ◌∙◌, subst}
use mathlib.Core.Bool.{Bool, true, false, cond, ◌&&◌, and-false}
use mathlib.Core.List.{List}
use mathlib.Core.Logic.{◌⊎◌, inl, inr, ◌↔◌}
use Prim.Native.Nat.{ℕ, ◌≤◌, ◌<◌}
use native.Mathlib.Omega.{arith}
use native.Mathlib.Decide.{dec_le}
use lib.Dec.{leb, eqb}
use lib.ListN.{length, get_or}
use borrow.Author.Tests.{le-leb, lt-leb}
use Rattle.lists.specs.Filled.{filled}
use Rattle.lists.proofs.Bools.{and_make}
use Rattle.lists.proofs.Rooms.{filled_length, filled_at, filled_past}
use Rattle.word.specs.Word.{bit, val}
use Rattle.rule.specs.Flag.{flag_of}
use Rattle.rule.specs.Numbers.{answer_number, answer_count}
use Rattle.rule.specs.declared.Refusal.{Refusal}
use Rattle.rule.specs.declared.Refusal.TheVariants.{NotReady, NoRoom}
use Rattle.rule.specs.Answers.{Answer}
use Rattle.std.specs.Prelude.{Ok, Err}
use Rattle.rule.proofs.Flags.{flag_cong}
use Rattle.card.specs.declared.Session.{Session}
use Rattle.card.specs.Session.{word_at, before_at}
use Rattle.card.proofs.Kept.{few}
use Rattle.session.specs.Good.{Rested, Good}
use Rattle.history.specs.Told.{Told, Roomy, before_byte, flag_at, history_of}
use Rattle.history.proofs.Flags.{Hazard, flag_is}
use Rattle.history.proofs.Ran.{holds, rule_value, before_is, value_is}

-- an answer that leaves the three slices as they were
abbrev pub unwritten : List ℕ → List ℕ → List ℕ → Answer → Told
unwritten words befores flags a = record { answer = a; words = words; befores = befores; flags = flags }

module _ (s : Session) (words befores flags : List ℕ) where
  -- what history writes
  abbrev pub written : Told
  written = record { answer = Ok s.nets; words = filled (word_at s) s.nets words; befores = filled (before_byte s) s.nets befores; flags = filled (flag_at s) s.nets flags }

  -- "lent room too short"
  abbrev pub Short : Type 0
  Short = (length words < s.nets) ⊎ ((length befores < s.nets) ⊎ (length flags < s.nets))

  abbrev Room : Type 0
  Room = Roomy s.nets words befores flags

  -- its tests, one after another
  abbrev by_tests : Bool → Bool → Told
  by_tests rested room = cond rested (cond room written (unwritten words befores flags (Err NoRoom))) (unwritten words befores flags (Err NotReady))

  abbrev room_test : Bool
  room_test = leb s.nets (length words) && (leb s.nets (length befores) && leb s.nets (length flags))

  by_them : history_of s words befores flags ≡ by_tests s.rested room_test
  unfolding history_of
  by_them = refl

  short_fails : Short → room_test ≡ false
  short_fails (inl l) = rw (lt-leb s.nets (length words) l)
  short_fails (inr (inl l)) = rw (lt-leb s.nets (length befores) l) (and-false (leb s.nets (length words)))
  short_fails (inr (inr l)) = rw (lt-leb s.nets (length flags) l, and-false (leb s.nets (length befores))) (and-false (leb s.nets (length words)))

  roomy_passes : Room → room_test ≡ true
  roomy_passes l =
      and_make _ _ (le-leb s.nets (length words) l.for_words) (and_make _ _ (le-leb s.nets (length befores) l.for_befores) (le-leb s.nets (length flags) l.for_flags))

  pub gives_12 : s.rested ≡ false → history_of s words befores flags ≡ unwritten words befores flags (Err NotReady)
  gives_12 e = by_them ∙ ap (λ b. by_tests b room_test) e

  pub gives_18 : s.rested ≡ true → Short → history_of s words befores flags ≡ unwritten words befores flags (Err NoRoom)
  gives_18 e l = by_them ∙ ap₂ by_tests e (short_fails l)

  pub gives_0 : s.rested ≡ true → Room → history_of s words befores flags ≡ written
  gives_0 e l = by_them ∙ ap₂ by_tests e (roomy_passes l)

  -- slices that hold what history writes
  pub told : s.rested ≡ true → Room → (ws bs fs : List ℕ) → ws ≡ written.words → bs ≡ written.befores → fs ≡ written.flags
      → record { answer = Ok s.nets; words = ws; befores = bs; flags = fs } ≡ history_of s words befores flags
  told e l ws bs fs ew eb ef = (λ i. record { answer = Ok s.nets; words = ew i; befores = eb i; flags = ef i }) ∙ sym (gives_0 e l)

-- Each number exactly when document 01 gives it: "History (words, before values, flags): 12, 18."

pub data Ruling (s : Session) (words befores flags : List ℕ) : Told → Type 0 where
  not_rested : s.rested ≡ false → Ruling s words befores flags (unwritten words befores flags (Err NotReady))
  too_short : s.rested ≡ true → Short s words befores flags → Ruling s words befores flags (unwritten words befores flags (Err NoRoom))
  done : s.rested ≡ true → Roomy s.nets words befores flags → Ruling s words befores flags (written s words befores flags)

module _ (s : Session) (words befores flags : List ℕ) where
  abbrev pub heard : Told
  heard = history_of s words befores flags

  abbrev pub number : ℕ
  number = answer_number heard.answer

  pub ruled : Ruling s words befores flags heard
  ruled = go s.rested refl
    where
      short : s.rested ≡ true → Short s words befores flags → Ruling s words befores flags heard
      short e l = rw (gives_18 s words befores flags e l) (too_short e l)

      fits : s.rested ≡ true → Dec (s.nets ≤ length words) → Dec (s.nets ≤ length befores) → Dec (s.nets ≤ length flags) → Ruling s words befores flags heard
      fits e (yes a) (yes b) (yes c) = let r : Roomy s.nets words befores flags = record { for_words = a; for_befores = b; for_flags = c } in rw (gives_0 s words befores flags e r) (done e r)
      fits e (yes a) (yes b) (no c) = short e (inr (inr (omega arith)))
      fits e (yes a) (no b) c = short e (inr (inl (omega arith)))
      fits e (no a) b c = short e (inl (omega arith))

      go : (x : Bool) → s.rested ≡ x → Ruling s words befores flags heard
      go true e = fits e (dec_le s.nets (length words)) (dec_le s.nets (length befores)) (dec_le s.nets (length flags))
      go false e = rw (gives_12 s words befores flags e) (not_rested e)

  -- the reason for each number
  abbrev Reason : ℕ → Type 0
  Reason k =
      cond (eqb k 12) (s.rested ≡ false)
      (cond (eqb k 18) ((s.rested ≡ true) × Short s words befores flags)
      (cond (eqb k 0) ((s.rested ≡ true) × Roomy s.nets words befores flags) ⊥))

  reason : (x : Told) → Ruling s words befores flags x → Reason (answer_number x.answer)
  reason x (not_rested e) = e
  reason x (too_short e l) = (e, l)
  reason x (done e l) = (e, l)

  -- "12, 18", and the only number besides is 0
  pub history_12 : (number ≡ 12) ↔ (s.rested ≡ false)
  history_12 = (λ q. subst Reason q (reason heard ruled), λ e. ap (λ x. answer_number x.answer) (gives_12 s words befores flags e))

  pub history_18 : (number ≡ 18) ↔ ((s.rested ≡ true) × Short s words befores flags)
  history_18 = (λ q. subst Reason q (reason heard ruled), λ h. ap (λ x. answer_number x.answer) (gives_18 s words befores flags h.0 h.1))

  pub history_0 : (number ≡ 0) ↔ ((s.rested ≡ true) × Roomy s.nets words befores flags)
  history_0 = (λ q. subst Reason q (reason heard ruled), λ h. ap (λ x. answer_number x.answer) (gives_0 s words befores flags h.0 h.1))

  -- "Every refusal returns its number and count 0, and changes neither session nor lent memory."
  pub history_refused : (r : Refusal) → heard.answer ≡ Err r → heard ≡ unwritten words befores flags (Err r)
  history_refused r e = go heard ruled e
    where
      go : (x : Told) → Ruling s words befores flags x → x.answer ≡ Err r → x ≡ unwritten words befores flags (Err r)
      go x (not_rested p) q = ap (unwritten words befores flags) q
      go x (too_short p l) q = ap (unwritten words befores flags) q
      go x (done p l) q = let z : ◌≡◌ {A = ℕ} 0 1 = cc in absurd (omega arith)

  -- "history the number of nets"
  module _ (ok : number ≡ 0) where
    pub wrote : heard ≡ written s words befores flags
    wrote = let h = history_0.0 ok in gives_0 s words befores flags h.0 h.1

    pub history_count : answer_count heard.answer ≡ s.nets
    history_count = ap (λ x. answer_count x.answer) wrote

    -- "Lent room past the part written keeps its contents."
    pub history_keeps_past : (i : ℕ) → s.nets ≤ i → (get_or heard.words i 0 ≡ get_or words i 0) × (get_or heard.befores i 0 ≡ get_or befores i 0) × (get_or heard.flags i 0 ≡ get_or flags i 0)
    history_keeps_past i l = (
      ap (λ x. get_or x.words i 0) wrote ∙ filled_past (word_at s) words s.nets i l,
      ap (λ x. get_or x.befores i 0) wrote ∙ filled_past (before_byte s) befores s.nets i l,
      ap (λ x. get_or x.flags i 0) wrote ∙ filled_past (flag_at s) flags s.nets i l,
    )

    pub history_keeps_length : (length heard.words ≡ length words) × (length heard.befores ≡ length befores) × (length heard.flags ≡ length flags)
    history_keeps_length = (
      ap (λ x. length x.words) wrote ∙ filled_length (word_at s) words s.nets,
      ap (λ x. length x.befores) wrote ∙ filled_length (before_byte s) befores s.nets,
      ap (λ x. length x.flags) wrote ∙ filled_length (flag_at s) flags s.nets,
    )

-- What a rested session's history says: the unit-delay rule's values, the before values ahead of them, and their flags

module _ (s : Session) (g : Good s) (rested : s.rested ≡ true) (words befores flags : List ℕ) (ok : number s words befores flags ≡ 0) where
  abbrev run : Rested s
  run = (g.rest rested).1

  room : Roomy s.nets words befores flags
  room = ((history_0 s words befores flags).0 ok).1

  listed_net : (n : ℕ) → n < s.nets → n < 256
  listed_net n l = omega (arith, few s (holds s g rested))

  -- what the slices have of the session
  pub history_shows : (n : ℕ) → n < s.nets
      → (get_or (heard s words befores flags).words n 0 ≡ word_at s n) × (get_or (heard s words befores flags).befores n 0 ≡ val (before_at s n)) × (get_or (heard s words befores flags).flags n 0 ≡ flag_at s n)
  history_shows n l =
      let left = wrote s words befores flags ok in (
        ap (λ x. get_or x.words n 0) left ∙ filled_at (word_at s) words s.nets n l room.for_words,
        ap (λ x. get_or x.befores n 0) left ∙ filled_at (before_byte s) befores s.nets n l room.for_befores,
        ap (λ x. get_or x.flags n 0) left ∙ filled_at (flag_at s) flags s.nets n l room.for_flags,
      )

  pub history_word_lem : (n t : ℕ) → n < s.nets → t < 64 → bit (get_or (heard s words befores flags).words n 0) t ≡ rule_value s run n t
  history_word_lem n t l b = ap (λ w. bit w t) (history_shows n l).0 ∙ value_is s (holds s g rested) run n t (listed_net n l) b

  pub history_before : (n : ℕ) → n < s.nets → get_or (heard s words befores flags).befores n 0 ≡ val (run.old n)
  history_before n l = (history_shows n l).1 ∙ ap val (before_is s (holds s g rested) run n (listed_net n l))

  pub history_flag : (n : ℕ) → n < s.nets → get_or (heard s words befores flags).flags n 0 ≡ flag_of (run.old n) (rule_value s run n)
  history_flag n l =
      (history_shows n l).2
      ∙ flag_cong (before_at s n) (run.old n) (bit (word_at s n)) (rule_value s run n) (before_is s (holds s g rested) run n (listed_net n l))
      (λ t b. value_is s (holds s g rested) run n t (listed_net n l) b)

  -- in document 01's words
  pub history_hazard : (n k : ℕ) → n < s.nets → (get_or (heard s words befores flags).flags n 0 ≡ k) ↔ Hazard (run.old n) (rule_value s run n) k
  history_hazard n k l =
      let h = flag_is (run.old n) (rule_value s run n) k in
      (λ e. h.0 (sym (history_flag n l) ∙ e), λ q. history_flag n l ∙ h.1 q)
