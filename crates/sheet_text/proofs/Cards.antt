-- The lines of a session's histories, from the slices that history fills. Assumes nothing.
use mathlib.Core.Path.{◌≡◌, ap, ap₂, ◌∙◌}
use mathlib.Core.Bool.{true}
use mathlib.Core.List.{List}
use Prim.Native.Nat.{ℕ, ◌≤◌, ◌<◌}
use native.Mathlib.Omega.{arith}
use lib.ListN.{length, get_or, replicate, length-replicate}
use Rattle.lists.specs.Entries.{each, from}
use Rattle.lists.proofs.Joined.{out_from, each_ext}
use Rattle.lists.proofs.Rooms.{filled_at}
use Rattle.word.specs.Word.{val}
use Rattle.rule.specs.Net.{Net}
use Rattle.rule.specs.Level.{depth}
use Rattle.rule.specs.Answers.{Answer}
use Rattle.card.specs.declared.Session.{Session}
use Rattle.card.specs.Session.{card_of, word_at, before_at}
use Rattle.card.specs.Held.{HasCard}
use Rattle.card.proofs.Kept.{few}
use Rattle.history.specs.Told.{Told, before_byte, flag_at, history_of}
use Rattle.history.proofs.Histories.{written, gives_0}
use Rattle.sheet_text.specs.Lines.{net_line, history_line}

module _ (s : Session) (h : HasCard s) where
  abbrev c : List Net
  c = card_of s

  -- three slices of 256 that history filled
  module _ (rested : s.rested ≡ true) (a : Answer) (ws bs fs : List ℕ)
      (told : ◌≡◌ {A = Told} (record { answer = a; words = ws; befores = bs; flags = fs })
      (history_of s (replicate 256 0) (replicate 256 0) (replicate 256 0)))
    where
      abbrev none : List ℕ
      none = replicate 256 0

      abbrev roomy : s.nets ≤ length none
      roomy = omega (arith, few s h, length-replicate {A = ℕ} 256 0)

      filled_as : ◌≡◌ {A = Told} (record { answer = a; words = ws; befores = bs; flags = fs }) (written s none none none)
      filled_as = told ∙ gives_0 s none none none rested (record { for_words = roomy; for_befores = roomy; for_flags = roomy })

      line_is : (n : ℕ) → n < s.nets → net_line (depth c) n (get_or bs n 0) (get_or ws n 0) (get_or fs n 0) ≡ history_line s n
      unfolding history_line
      line_is n l =
          let b : get_or bs n 0 ≡ val (before_at s n) = ap (λ x. get_or x.befores n 0) filled_as
          ∙ filled_at (before_byte s) none s.nets n l roomy in
          let w : get_or ws n 0 ≡ word_at s n = ap (λ x. get_or x.words n 0) filled_as ∙ filled_at (word_at s) none s.nets n l roomy in
          let f : get_or fs n 0 ≡ flag_at s n = ap (λ x. get_or x.flags n 0) filled_as ∙ filled_at (flag_at s) none s.nets n l roomy in
          ap₂ (λ x y. net_line (depth c) n x y (get_or fs n 0)) b w ∙ ap (net_line (depth c) n (val (before_at s n)) (word_at s n)) f

      pub lines_are : (d : ℕ) → d ≡ depth c
          → each (λ n. net_line d n (get_or bs n 0) (get_or ws n 0) (get_or fs n 0)) (from 0 s.nets) ≡ each (history_line s) (from 0 s.nets)
      lines_are d e =
          ap (λ x. each (λ n. net_line x n (get_or bs n 0) (get_or ws n 0) (get_or fs n 0)) (from 0 s.nets)) e
          ∙ each_ext (λ n. net_line (depth c) n (get_or bs n 0) (get_or ws n 0) (get_or fs n 0)) (history_line s) (from 0 s.nets)
          (λ n m. line_is n (omega (arith, (out_from 0 s.nets n m).1)))
