-- The changes that a rested session's arrays show are the rule's, and each has its cause. Assumes nothing.
use mathlib.Core.Path.{◌≡◌, sym, ◌∙◌, subst}
use mathlib.Core.Bool.{Bool, true, false}
use mathlib.Core.List.{List}
use mathlib.Core.Logic.{inl, inr, ⊎_elim}
use Prim.Native.Nat.{ℕ, zero, suc, ◌-◌, ◌<◌}
use native.Mathlib.Omega.{arith}
use Rattle.lists.specs.Entries.{◌∈◌, some}
use Rattle.lists.proofs.Bools.{not_both}
use Rattle.lists.proofs.Tests.{some_in}
use Rattle.word.specs.Word.{bit}
use Rattle.rule.specs.Flag.{changed_at}
use Rattle.rule.specs.Cause.{first_pin}
use Rattle.rule.proofs.Nets.{at_open, at_net, not_open}
use Rattle.card_wiring.specs.Layout.{pins_at}
use Rattle.card.specs.Session.{card_of, word_at, before_at}
use Rattle.card.specs.Held.{HasCard}
use Rattle.card.specs.declared.Session.{Session}
use Rattle.card.proofs.Kept.{few, card_pins, card_wires, card_fitting}
use Rattle.session.specs.Good.{Rested}
use Rattle.trace.specs.Inner.Caused.{moved_at, Readable, Caused}
use Rattle.rule.proofs.Flags.{changed_cong}
use Rattle.trace.proofs.Moves.{moved_net, moved_open}
use Rattle.trace.proofs.FirstPins.{first_in}
use Rattle.trace.proofs.Causes.{pin_changed, cause_exists}
use Rattle.history.proofs.Ran.{rule_value, before_is, value_is}

-- a pin of its card names a place of the arrays or is open
pub pin_readable : (s : Session) → HasCard s → (g p : ℕ) → p ∈ pins_at s.counts s.places g → Readable p
pin_readable s h g p m = let k = few s h in ⊎_elim (λ l. inl (omega arith)) inr (card_fitting s h g p m)

module _ (s : Session) (h : HasCard s) (r : Rested s) where
  abbrev v : ℕ → ℕ → Bool
  v = rule_value s r

  change_is : (n t : ℕ) → n < 256 → t < 64 → changed_at (before_at s n) (bit (word_at s n)) t ≡ changed_at (r.old n) (v n) t
  change_is n t l b = changed_cong (before_at s n) (r.old n) (bit (word_at s n)) (v n) (before_is s h r n l) (λ u. value_is s h r n u l) t b

  pub moved_is : (n t : ℕ) → n < 256 → t < 64 → moved_at s.before s.words n t ≡ changed_at (r.old n) (v n) t
  moved_is n t l b = sym (moved_net s.before s.words n t (omega arith)) ∙ change_is n t l b

  pub pin_moved_is : (p t : ℕ) → Readable p → t < 64 → moved_at s.before s.words p t ≡ pin_changed r.old v p t
  pin_moved_is p t (inl l) b = moved_is p t l b ∙ sym (at_net false (λ m. changed_at (r.old m) (v m) t) p (not_open p (omega arith)))
  pin_moved_is p t (inr e) b = moved_open s.before s.words p t e ∙ sym (rw e (at_open false (λ m. changed_at (r.old m) (v m) t)))

  -- so the walk back along the causes can be made

  abbrev moved : ℕ → ℕ → Bool
  moved p t = moved_at s.before s.words p t

  abbrev pins_of : ℕ → List ℕ
  pins_of g = pins_at s.counts s.places g

  some_moved : (g t : ℕ) → g < 256 → suc t < 64 → moved g (suc t) ≡ true → some (λ p. moved p t) (pins_of g) ≡ true
  some_moved g t l b e =
      let k = cause_exists (card_of s) r.old r.new r.calm g t (sym (moved_is g (suc t) l b) ∙ e) in
      let m : k.0 ∈ pins_of g = subst (λ f. k.0 ∈ f g) (sym (card_pins s h)) k.1.pin in
      some_in (λ p. moved p t) (pins_of g) k.0 m
      (pin_moved_is k.0 t (pin_readable s h g k.0 m) (omega arith) ∙ at_net false (λ n. changed_at (r.old n) (v n) t) k.0 k.1.net ∙ k.1.changed)

  first_moved_lem : (g t : ℕ) → some (λ p. moved p t) (pins_of g) ≡ true → (first_pin (λ p. moved p t) (pins_of g) < 256) × (moved (first_pin (λ p. moved p t) (pins_of g)) t ≡ true)
  first_moved_lem g t e =
      let k = first_in (λ p. moved p t) (pins_of g) e in
      (⊎_elim (λ l. l) (λ q. absurd (not_both _ k.1 (moved_open s.before s.words _ t q))) (pin_readable s h g _ k.0), k.1)

  cause_moved : (g t : ℕ) → g < 256 → 0 < t → t < 64 → moved g t ≡ true
      → (first_pin (λ p. moved p (t - 1)) (pins_of g) < 256) × (moved (first_pin (λ p. moved p (t - 1)) (pins_of g)) (t - 1) ≡ true)
  cause_moved g zero l p b e = absurd (omega arith)
  cause_moved g (suc t) l p b e =
      let x : t ≡ suc t - 1 = omega arith in
      subst (λ u. (first_pin (λ p. moved p u) (pins_of g) < 256) × (moved (first_pin (λ p. moved p u) (pins_of g)) u ≡ true)) x (first_moved_lem g t (some_moved g t l b e))

  pub session_caused : Caused s.words s.before s.counts s.places
  session_caused = record { narrow = (card_wires s h).narrow; readable = pin_readable s h; cause = cause_moved }
