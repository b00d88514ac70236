-- What a line asks for. Assumes nothing.
use Rattle.std.specs.Prelude.{cond, List, [], ◌∷◌, Option, Some, None, ℕ, ltb, length}
use Rattle.text.specs.Text.{same_text}
use Rattle.drill_text.specs.declared.Command.{Command}
use Rattle.drill_text.specs.declared.Command.TheVariants.{Load, Rest, Vector, Steps, History, List as Steplist, Records, Net, Trace, Bench}
use Rattle.drill_words.specs.Parts.{words}
use Rattle.drill_words.specs.Digits.{number_spelled, room_of, is_hex}
use Rattle.drill_words.specs.Orders.{is_order}

-- the names of the operations, in ASCII

abbrev pub load : List ℕ
load = 108 ∷ 111 ∷ 97 ∷ 100 ∷ []

abbrev pub rest : List ℕ
rest = 114 ∷ 101 ∷ 115 ∷ 116 ∷ []

abbrev pub vector : List ℕ
vector = 118 ∷ 101 ∷ 99 ∷ 116 ∷ 111 ∷ 114 ∷ []

abbrev pub steps : List ℕ
steps = 115 ∷ 116 ∷ 101 ∷ 112 ∷ 115 ∷ []

abbrev pub history : List ℕ
history = 104 ∷ 105 ∷ 115 ∷ 116 ∷ 111 ∷ 114 ∷ 121 ∷ []

abbrev pub list : List ℕ
list = 108 ∷ 105 ∷ 115 ∷ 116 ∷ []

abbrev pub records : List ℕ
records = 114 ∷ 101 ∷ 99 ∷ 111 ∷ 114 ∷ 100 ∷ 115 ∷ []

abbrev pub net : List ℕ
net = 110 ∷ 101 ∷ 116 ∷ []

abbrev pub trace : List ℕ
trace = 116 ∷ 114 ∷ 97 ∷ 99 ∷ 101 ∷ []

abbrev pub bench : List ℕ
bench = 98 ∷ 101 ∷ 110 ∷ 99 ∷ 104 ∷ []

-- a command, if each of its words is what it should be

abbrev pub if_hex : List ℕ → Command → Option Command
if_hex word then = cond (is_hex word) (Some then) None

abbrev pub as_records : Option ℕ → Option Command
as_records (Some room) = Some (Records room)
as_records None = None

abbrev pub as_net : Option ℕ → Option Command
as_net (Some n) = Some (Net n)
as_net None = None

abbrev pub as_list : Option ℕ → Option ℕ → Option Command
as_list None y = None
as_list (Some nets) None = None
as_list (Some nets) (Some times) = Some (Steplist nets times)

abbrev pub as_history : Option ℕ → Option ℕ → Option ℕ → Option Command
as_history None y z = None
as_history (Some w) None z = None
as_history (Some w) (Some b) None = None
as_history (Some w) (Some b) (Some f) = Some (History w b f)

abbrev pub as_trace : Option ℕ → Option ℕ → Option ℕ → Option Command
as_trace None y z = None
as_trace (Some n) None z = None
as_trace (Some n) (Some t) None = None
as_trace (Some n) (Some t) (Some room) = Some (Trace n t room)

abbrev pub as_bench : Option ℕ → Option ℕ → Option Command
as_bench None y = None
as_bench (Some k) None = None
as_bench (Some k) (Some room) = Some (Bench k room)

-- `load HEX | rest HEX | vector HEX | steps HEX | records ROOM | net N`
unfoldable pub with_one : List ℕ → List ℕ → Option Command
with_one name a =
    cond (same_text name load) (if_hex a Load)
    (cond (same_text name rest) (if_hex a Rest)
    (cond (same_text name vector) (if_hex a Vector)
    (cond (same_text name steps) (if_hex a Steps)
    (cond (same_text name records) (as_records (room_of a))
    (cond (same_text name net) (as_net (number_spelled a)) None)))))

-- `list NETS TIMES`
unfoldable pub with_two : List ℕ → List ℕ → List ℕ → Option Command
with_two name a b = cond (same_text name list) (as_list (room_of a) (room_of b)) None

-- `history WORDS BEFORES FLAGS | trace N TIME ROOM`
unfoldable pub with_three : List ℕ → List ℕ → List ℕ → List ℕ → Option Command
with_three name a b c =
    cond (same_text name history) (as_history (room_of a) (room_of b) (room_of c))
    (cond (same_text name trace) (as_trace (number_spelled a) (number_spelled b) (room_of c)) None)

-- `bench HEX ORDER K ROOM`
unfoldable pub with_four : List ℕ → List ℕ → List ℕ → List ℕ → List ℕ → Option Command
with_four name a b c d = cond (same_text name bench) (cond (is_hex a) (cond (is_order b) (as_bench (number_spelled c) (room_of d)) None) None) None

-- by the number of words
unfoldable pub asked : List (List ℕ) → Option Command
asked [] = None
asked (name ∷ []) = None
asked (name ∷ a ∷ []) = with_one name a
asked (name ∷ a ∷ b ∷ []) = with_two name a b
asked (name ∷ a ∷ b ∷ c ∷ []) = with_three name a b c
asked (name ∷ a ∷ b ∷ c ∷ d ∷ []) = with_four name a b c d
asked (name ∷ a ∷ b ∷ c ∷ d ∷ e ∷ es) = None

-- "a line to 140,000 bytes"; "A line that is none of these answers `?` and changes nothing."
unfoldable pub command_of : List ℕ → Option Command
command_of line = cond (ltb 140000 (length line)) None (asked (words line))
