-- Trace: "12, 13, 14, 18"; "It writes the nets on the way, t+1 of them." Assumes nothing.
use Rattle.std.specs.Prelude.{Bool, false, cond, ◌&&◌, List, ℕ, ◌+◌, leb, ltb, length, get_or}
use Rattle.lists.specs.Filled.{filled}
use Rattle.word.specs.Word.{bit}
use Rattle.rule.specs.Net.{at_pin}
use Rattle.rule.specs.Flag.{changed_at}
use Rattle.rule.specs.Cause.{causes}
use Rattle.rule.specs.declared.Refusal.TheVariants.{NotReady, NoSuchNet, NoChange, NoRoom}
use Rattle.rule.specs.Answers.{Answer}
use Rattle.std.specs.Prelude.{Ok, Err}
use Rattle.card.specs.Session.{card_of, word_at, before_at}
use Rattle.card.specs.declared.Session.{Session}

-- whether what a pin names changed at time t, by the nets' before values and words; an open pin never does
abbrev pub changed_by : (ℕ → Bool) → (ℕ → ℕ) → ℕ → ℕ → Bool
changed_by before word n t = at_pin false (λ m. changed_at (before m) (bit (word m)) t) n

-- 14: "that net did not change at that time (times over 63 too)"
abbrev pub changed_then : Session → ℕ → ℕ → Bool
changed_then s n t = ltb t 64 && changed_by (before_at s) (word_at s) n t

-- the nets on the way back
unfoldable pub way_back : Session → ℕ → ℕ → List ℕ
way_back s n t = causes (card_of s) (changed_by (before_at s) (word_at s)) n t

pub record Traced : Type 0 where
  pub answer : Answer
  pub room : List ℕ

unfoldable pub trace_of : Session → ℕ → ℕ → List ℕ → Traced
trace_of s n t room =
    let kept : Answer → Traced = λ a. record { answer = a; room = room } in
    cond s.rested
    (cond (ltb n s.nets)
    (cond (changed_then s n t)
    (cond (leb (t + 1) (length room))
    (record { answer = Ok (t + 1); room = filled (λ i. get_or (way_back s n t) i 0) (t + 1) room })
    (kept (Err NoRoom)))
    (kept (Err NoChange)))
    (kept (Err NoSuchNet)))
    (kept (Err NotReady))
