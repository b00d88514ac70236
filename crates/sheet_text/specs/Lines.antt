-- The text of the sheet's lines, as bytes; every line ends in LF. Assumes nothing.
use Rattle.std.specs.Prelude.{List, [], ◌∷◌, ◌++◌, ℕ, ◌+◌, length}
use Rattle.lists.specs.Entries.{each, from}
use Rattle.lists.specs.Listed.{listed}
use Rattle.word.specs.Word.{bit, val}
use Rattle.rule.specs.Level.{depth}
use Rattle.rule.specs.Numbers.{number_of}
use Rattle.rule.specs.Steps.{step_list}
use Rattle.rule.specs.declared.Refusal.{Refusal}
use Rattle.card.specs.declared.Session.{Session}
use Rattle.card.specs.Session.{card_of, word_at, before_at}
use Rattle.history.specs.Told.{flag_at}
use Rattle.text.specs.Text.{digit, numbered, named}

-- a blank, LF, and the words of the lines with the blank after each, in ASCII

abbrev pub blank : ℕ
blank = 32

abbrev pub lf : ℕ
lf = 10

abbrev pub depth_word : List ℕ
depth_word = 100 ∷ 101 ∷ 112 ∷ 116 ∷ 104 ∷ 32 ∷ []

abbrev pub steps_word : List ℕ
steps_word = 115 ∷ 116 ∷ 101 ∷ 112 ∷ 115 ∷ 32 ∷ []

abbrev pub vector_word : List ℕ
vector_word = 118 ∷ 101 ∷ 99 ∷ 116 ∷ 111 ∷ 114 ∷ 32 ∷ []

abbrev pub refused_word : List ℕ
refused_word = 114 ∷ 101 ∷ 102 ∷ 117 ∷ 115 ∷ 101 ∷ 100 ∷ 32 ∷ []

-- "a line `refused` and the number"
unfoldable pub refused_line : Refusal → List ℕ
refused_line why = named refused_word (number_of why) lf

-- "First line: depth and length of the step list."
unfoldable pub first_line : (deep steps : ℕ) → List ℕ
first_line deep steps = named depth_word deep blank ++ named steps_word steps lf

-- "values at times 0 to depth", a digit each
unfoldable pub values : (word deep : ℕ) → List ℕ
values word deep = listed (λ t. digit (val (bit word t))) (deep + 1)

-- "one line a net: number, before value, values at times 0 to depth, flag"
unfoldable pub net_line : (deep net before word flag : ℕ) → List ℕ
net_line deep net before word flag = numbered net blank ++ (numbered before blank ++ ((values word deep ++ (blank ∷ [])) ++ numbered flag lf))

-- the first line of a session that holds a card
unfoldable pub card_text : Session → List ℕ
card_text s = first_line (depth (card_of s)) (length (step_list (card_of s)))

-- the line of net n, of the histories that a session holds
unfoldable pub history_line : Session → ℕ → List ℕ
history_line s n = net_line (depth (card_of s)) n (val (before_at s n)) (word_at s n) (flag_at s n)

-- the lines of a vector: "`vector` counts kind 6 records. Then one line a net"
unfoldable pub vector_text : ℕ → Session → List ℕ
vector_text k s = named vector_word k lf ++ each (history_line s) (from 0 s.nets)
