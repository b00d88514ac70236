-- What a caller may take for granted of a command: its line is no long one, and its rooms are not too large. Assumes nothing.
use mathlib.Core.Path.{◌≡◌, refl, sym, ◌∙◌, subst}
use mathlib.Core.Bool.{Bool, true, false, cond}
use mathlib.Core.List.{List, [], ◌∷◌}
use Prim.Native.Nat.{ℕ, ◌≤◌}
use native.Mathlib.Decide.{dec_le}
use native.Mathlib.Omega.{arith}
use lib.Dec.{leb, ltb}
use lib.ListN.{length}
use borrow.Author.Tests.{leb-true}
use Rattle.text.specs.Text.{same_text}
use Rattle.std.specs.Prelude.{Option, Some, None}
use Rattle.drill_text.specs.declared.Command.{Command}
use Rattle.drill_text.specs.declared.Command.TheVariants.{Load, Rest, Vector, Steps, History, List as Steplist, Records, Net, Trace, Bench}
use Rattle.drill_words.specs.Parts.{words}
use Rattle.drill_words.specs.Digits.{limited, number_spelled, room_of, is_hex}
use Rattle.drill_words.specs.Orders.{is_order}
use Rattle.drill_text.specs.Lines.{load, rest, vector, steps, history, list, records, net, trace, bench, if_hex, as_records, as_net, as_list, as_history, as_trace, as_bench, with_one, with_two, with_three, with_four, asked, command_of}
use Rattle.drill_text.proofs.Asking.{line_long}

-- every room that a command asks for has at most 20,000 entries
abbrev pub RoomsFit : Option Command → Type 0
RoomsFit None = Unit
RoomsFit (Some Load) = Unit
RoomsFit (Some Rest) = Unit
RoomsFit (Some Vector) = Unit
RoomsFit (Some Steps) = Unit
RoomsFit (Some (History words befores flags)) = (words ≤ 20000) × (befores ≤ 20000) × (flags ≤ 20000)
RoomsFit (Some (Steplist nets times)) = (nets ≤ 20000) × (times ≤ 20000)
RoomsFit (Some (Records room)) = room ≤ 20000
RoomsFit (Some (Net n)) = Unit
RoomsFit (Some (Trace n t room)) = room ≤ 20000
RoomsFit (Some (Bench k room)) = room ≤ 20000

-- a room's length, if it was read

abbrev Small : Option ℕ → Type 0
Small (Some n) = n ≤ 20000
Small None = Unit

small : (n : Option ℕ) → Small (limited n)
small None = tt
small (Some n) = go (leb n 20000) refl
  where
    go : (b : Bool) → leb n 20000 ≡ b → Small (cond b (Some n) None)
    go true e = leb-true n 20000 e
    go false e = tt

-- each kind of command

either : (b : Bool) (x y : Option Command) → RoomsFit x → RoomsFit y → RoomsFit (cond b x y)
either true x y p q = p
either false x y p q = q

records_fit : (x : Option ℕ) → Small x → RoomsFit (as_records x)
records_fit (Some n) p = p
records_fit None p = tt

net_fits : (x : Option ℕ) → RoomsFit (as_net x)
net_fits (Some n) = tt
net_fits None = tt

list_fits : (x y : Option ℕ) → Small x → Small y → RoomsFit (as_list x y)
list_fits None y p q = tt
list_fits (Some n) None p q = tt
list_fits (Some n) (Some m) p q = (p, q)

history_fits : (x y z : Option ℕ) → Small x → Small y → Small z → RoomsFit (as_history x y z)
history_fits None y z p q r = tt
history_fits (Some n) None z p q r = tt
history_fits (Some n) (Some m) None p q r = tt
history_fits (Some n) (Some m) (Some k) p q r = (p, q, r)

trace_fits : (x y z : Option ℕ) → Small z → RoomsFit (as_trace x y z)
trace_fits None y z r = tt
trace_fits (Some n) None z r = tt
trace_fits (Some n) (Some m) None r = tt
trace_fits (Some n) (Some m) (Some k) r = r

bench_fits : (x y : Option ℕ) → Small y → RoomsFit (as_bench x y)
bench_fits None y r = tt
bench_fits (Some n) None r = tt
bench_fits (Some n) (Some m) r = r

hex_fits : (a : List ℕ) (x : Command) → RoomsFit (Some x) → RoomsFit (if_hex a x)
hex_fits a x p = either (is_hex a) (Some x) None p tt

-- by the number of words

one_fits : (n a : List ℕ) → RoomsFit (with_one n a)
unfolding with_one
one_fits n a =
    either (same_text n load) _ _ (hex_fits a Load tt)
    (either (same_text n rest) _ _ (hex_fits a Rest tt)
    (either (same_text n vector) _ _ (hex_fits a Vector tt)
    (either (same_text n steps) _ _ (hex_fits a Steps tt)
    (either (same_text n records) _ _ (records_fit (room_of a) (small (number_spelled a)))
    (either (same_text n net) _ _ (net_fits (number_spelled a)) tt)))))

two_fits : (n a b : List ℕ) → RoomsFit (with_two n a b)
unfolding with_two
two_fits n a b = either (same_text n list) _ _ (list_fits (room_of a) (room_of b) (small (number_spelled a)) (small (number_spelled b))) tt

three_fits : (n a b c : List ℕ) → RoomsFit (with_three n a b c)
unfolding with_three
three_fits n a b c =
    either (same_text n history) _ _ (history_fits (room_of a) (room_of b) (room_of c) (small (number_spelled a)) (small (number_spelled b)) (small (number_spelled c)))
    (either (same_text n trace) _ _ (trace_fits (number_spelled a) (number_spelled b) (room_of c) (small (number_spelled c))) tt)

four_fits : (n a b c d : List ℕ) → RoomsFit (with_four n a b c d)
unfolding with_four
four_fits n a b c d =
    either (same_text n bench) _ _ (either (is_hex a) _ _ (either (is_order b) _ _ (bench_fits (number_spelled c) (room_of d) (small (number_spelled d))) tt) tt) tt

asked_fits : (ws : List (List ℕ)) → RoomsFit (asked ws)
unfolding asked
asked_fits [] = tt
asked_fits (n ∷ []) = tt
asked_fits (n ∷ a ∷ []) = one_fits n a
asked_fits (n ∷ a ∷ b ∷ []) = two_fits n a b
asked_fits (n ∷ a ∷ b ∷ c ∷ []) = three_fits n a b c
asked_fits (n ∷ a ∷ b ∷ c ∷ d ∷ []) = four_fits n a b c d
asked_fits (n ∷ a ∷ b ∷ c ∷ d ∷ e ∷ es) = tt

-- a command's rooms are not too large
rooms_fit : (line : List ℕ) → RoomsFit (command_of line)
unfolding command_of
rooms_fit line = either (ltb 140000 (length line)) _ _ tt (asked_fits (words line))

-- For a caller that was told which command it is

abbrev pub Told : Option Command → Type 0
Told None = ⊥
Told (Some Load) = Unit
Told (Some Rest) = Unit
Told (Some Vector) = Unit
Told (Some Steps) = Unit
Told (Some (History w b f)) = Unit
Told (Some (Steplist n t)) = Unit
Told (Some (Records room)) = Unit
Told (Some (Net n)) = Unit
Told (Some (Trace n t room)) = Unit
Told (Some (Bench k room)) = Unit

module _ (line : List ℕ) (r c : Option Command) (e : r ≡ command_of line) (t : r ≡ c) where
  pub told_short : Told c → length line ≤ 140000
  told_short told = go (dec_le (length line) 140000)
    where
      go : Dec (length line ≤ 140000) → length line ≤ 140000
      go (yes l) = l
      go (no l) = absurd (subst Told (sym t ∙ e ∙ sym (line_long line (omega arith))) told)

  pub told_rooms : RoomsFit c
  told_rooms = subst RoomsFit (sym e ∙ t) (rooms_fit line)
