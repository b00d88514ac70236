-- History: "12, 18"; "History fills three lent slices, one entry a net: word, before value (the one from ahead of that word's time 0), flag."
-- Assumes nothing.
use Rattle.std.specs.Prelude.{cond, ◌&&◌, List, ℕ, ◌≤◌, leb, length}
use Rattle.lists.specs.Filled.{filled}
use Rattle.word.specs.Word.{bit, val}
use Rattle.rule.specs.Flag.{flag_of}
use Rattle.rule.specs.declared.Refusal.TheVariants.{NotReady, NoRoom}
use Rattle.rule.specs.Answers.{Answer}
use Rattle.std.specs.Prelude.{Ok, Err}
use Rattle.card.specs.declared.Session.{Session}
use Rattle.card.specs.Session.{word_at, before_at}

-- what a history hands back, and the three lent slices after it
pub record Told : Type 0 where
  pub answer : Answer
  pub words : List ℕ
  pub befores : List ℕ
  pub flags : List ℕ

-- three lent slices with room for n entries each
pub record Roomy (n : ℕ) (words befores flags : List ℕ) : Type 0 where
  pub for_words : n ≤ length words
  pub for_befores : n ≤ length befores
  pub for_flags : n ≤ length flags

-- a net's before value as a byte, and its flag
abbrev pub before_byte : Session → ℕ → ℕ
before_byte s n = val (before_at s n)

abbrev pub flag_at : Session → ℕ → ℕ
flag_at s n = flag_of (before_at s n) (bit (word_at s n))

-- "history the number of nets"
unfoldable pub history_of : Session → List ℕ → List ℕ → List ℕ → Told
history_of s words befores flags =
    let kept : Answer → Told = λ a. record { answer = a; words = words; befores = befores; flags = flags } in
    cond s.rested
    (cond (leb s.nets (length words) && (leb s.nets (length befores) && leb s.nets (length flags)))
    (record {
      answer = Ok s.nets;
      words = filled (word_at s) s.nets words;
      befores = filled (before_byte s) s.nets befores;
      flags = filled (flag_at s) s.nets flags;
    })
    (kept (Err NoRoom)))
    (kept (Err NotReady))
