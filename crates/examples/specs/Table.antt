-- P1 to P10 of document 01, by an engine: a row an example, a line a call with what it must hand back. Assumes nothing.
use Rattle.std.specs.Prelude.{List, [], ◌∷◌, ◌++◌, ℕ, ◌-◌, ◌^◌}
use Rattle.rule.specs.Net.{Net, input, gate, open_pin}
use Rattle.card_records.specs.Example.{example_card}
use Rattle.card_records.specs.Written.{card_bytes}
use Rattle.operations.specs.declared.Engine.{Engine}
use Rattle.operations.specs.declared.Engine.TheVariants.{Fields, Steps}
use Rattle.demands.specs.Operations.{Operation, load, rest, vector, history, list, ask, trace, bench}
use Rattle.examples.specs.Calls.{Call, does, print, Reply, printed, lent}

-- a call, and what it hands back
pub record Line : Type 0 where
  pub call : Call
  pub reply : Reply

infix 20 ◌gives◌
abbrev pub ◌gives◌ : Operation → Reply → Line
operation gives reply = record { call = does operation; reply = reply }

infix 20 ◌prints◌
abbrev pub ◌prints◌ : List ℕ → List ℕ → Line
file prints text = record { call = print file; reply = printed text }

-- "With 0 comes a count."
abbrev pub done : ℕ → List (List ℕ) → Reply
done count rooms = record { number = 0; count = count; level = 0; word = 0; rooms = rooms }

-- "A question about one net gives its level and its PC-set word without the inserted 0, and count 0"
abbrev pub known : ℕ → ℕ → Reply
known level word = record { number = 0; count = 0; level = level; word = word; rooms = [] }

abbrev pub refused : ℕ → List (List ℕ) → Reply
refused number rooms = record { number = number; count = 0; level = 0; word = 0; rooms = rooms }

-- "rest and a vector by fields 0"; "A vector by steps and a bench run return the steps done."
abbrev pub stepped : Engine → ℕ → Reply
stepped Fields count = done 0 []
stepped Steps count = done count []

-- a word of 64 ones
abbrev pub ones : ℕ
ones = 2 ^ 64 - 1

-- P1: "00000100 00000100 00000100 0500030002 00000100 0500030004 03000200 00000400 03000500000101 03000600010100"
abbrev pub example_file : List ℕ
example_file = example_card ++ (3 ∷ 0 ∷ 5 ∷ 0 ∷ 0 ∷ 1 ∷ 1 ∷ 3 ∷ 0 ∷ 6 ∷ 0 ∷ 1 ∷ 1 ∷ 0 ∷ [])

-- "depth 2 steps 3", "vector 1", "0 0 111 1", "1 1 111 0", "2 1 000 1", "3 0 011 1", "4 1 101 2"
abbrev pub example_sheet : List ℕ
example_sheet =
    100 ∷ 101 ∷ 112 ∷ 116 ∷ 104 ∷ 32 ∷ 50 ∷ 32 ∷ 115 ∷ 116 ∷ 101 ∷ 112 ∷ 115 ∷ 32 ∷ 51 ∷ 10
    ∷ 118 ∷ 101 ∷ 99 ∷ 116 ∷ 111 ∷ 114 ∷ 32 ∷ 49 ∷ 10
    ∷ 48 ∷ 32 ∷ 48 ∷ 32 ∷ 49 ∷ 49 ∷ 49 ∷ 32 ∷ 49 ∷ 10
    ∷ 49 ∷ 32 ∷ 49 ∷ 32 ∷ 49 ∷ 49 ∷ 49 ∷ 32 ∷ 48 ∷ 10
    ∷ 50 ∷ 32 ∷ 49 ∷ 32 ∷ 48 ∷ 48 ∷ 48 ∷ 32 ∷ 49 ∷ 10
    ∷ 51 ∷ 32 ∷ 48 ∷ 32 ∷ 48 ∷ 49 ∷ 49 ∷ 32 ∷ 49 ∷ 10
    ∷ 52 ∷ 32 ∷ 49 ∷ 32 ∷ 49 ∷ 48 ∷ 49 ∷ 32 ∷ 50 ∷ 10 ∷ []

abbrev pub rested : List Line
rested = (load example_card gives done 5 []) ∷ (rest (0 ∷ 1 ∷ 1 ∷ []) gives done 0 []) ∷ []

abbrev pub moved : Engine → List Line
moved e = rested ++ ((vector e (1 ∷ 1 ∷ 0 ∷ []) gives stepped e 3) ∷ [])

-- "P1: the session above. Steps (3,1), (4,1), (4,2). Net 3 has PC-set {1}, net 4 {1,2}."
abbrev pub p1 : Engine → List Line
p1 e =
    moved e
    ++ ((example_file prints example_sheet)
    ∷ (list (lent 3) (lent 3) gives done 3 ((3 ∷ 4 ∷ 4 ∷ []) ∷ (1 ∷ 1 ∷ 2 ∷ []) ∷ []))
    ∷ (ask 3 gives known 1 2)
    ∷ (ask 4 gives known 2 6)
    ∷ (history (lent 5) (lent 5) (lent 5) gives done 5 (
    (ones ∷ ones ∷ 0 ∷ (ones - 1) ∷ (ones - 2) ∷ [])
    ∷ (0 ∷ 1 ∷ 1 ∷ 0 ∷ 1 ∷ [])
    ∷ (1 ∷ 0 ∷ 1 ∷ 1 ∷ 2 ∷ [])
    ∷ []
    ))
    ∷ [])

-- "P2: its orders 012, 021, 102 are taken; 120, 201, 210 get 17." After P1's rest, the whole of each
abbrev pub ordered : List ℕ → Line
ordered order = bench (1 ∷ 1 ∷ 0 ∷ []) order 3 (lent 3) gives done 3 ((1 ∷ 0 ∷ 1 ∷ []) ∷ [])

abbrev pub early : List ℕ → Line
early order = bench (1 ∷ 1 ∷ 0 ∷ []) order 3 (lent 3) gives refused 17 ((170 ∷ 170 ∷ 170 ∷ []) ∷ [])

abbrev pub again : Line
again = rest (0 ∷ 1 ∷ 1 ∷ []) gives done 0 []

abbrev pub p2 : List Line
p2 =
    rested
    ++ (ordered (0 ∷ 1 ∷ 2 ∷ []) ∷ again
    ∷ ordered (0 ∷ 2 ∷ 1 ∷ []) ∷ again
    ∷ ordered (1 ∷ 0 ∷ 2 ∷ []) ∷ again
    ∷ early (1 ∷ 2 ∷ 0 ∷ [])
    ∷ early (2 ∷ 0 ∷ 1 ∷ [])
    ∷ early (2 ∷ 1 ∷ 0 ∷ [])
    ∷ [])

-- "P3: trace of net 4 at 2 is 4, 3, 0; at 1 it is 4, 2; at 0 it gets 14."
abbrev pub p3 : Engine → List Line
p3 e =
    moved e
    ++ ((trace 4 2 (lent 3) gives done 3 ((4 ∷ 3 ∷ 0 ∷ []) ∷ []))
    ∷ (trace 4 1 (lent 3) gives done 2 ((4 ∷ 2 ∷ 170 ∷ []) ∷ []))
    ∷ (trace 4 0 (lent 3) gives refused 14 ((170 ∷ 170 ∷ 170 ∷ []) ∷ []))
    ∷ [])

-- "P4: order 102 with k=1 writes 2, 0, 2."
abbrev pub p4 : List Line
p4 = rested ++ ((bench (1 ∷ 1 ∷ 0 ∷ []) (1 ∷ 0 ∷ 2 ∷ []) 1 (lent 4) gives done 1 ((2 ∷ 0 ∷ 2 ∷ 170 ∷ []) ∷ [])) ∷ [])

-- "P5: after P1's rest, the vector 0 1 1: all flags 0, still 3 steps."
abbrev pub p5 : Engine → List Line
p5 e =
    rested
    ++ ((vector e (0 ∷ 1 ∷ 1 ∷ []) gives stepped e 3)
    ∷ (history (lent 5) (lent 5) (lent 5) gives done 5 ((0 ∷ ones ∷ ones ∷ 0 ∷ ones ∷ []) ∷ (0 ∷ 1 ∷ 1 ∷ 0 ∷ 1 ∷ []) ∷ (0 ∷ 0 ∷ 0 ∷ 0 ∷ 0 ∷ []) ∷ []))
    ∷ [])

-- a card of one input, moved from 0 to 1, and its history: words, before values, flags
abbrev pub raised : Engine → List Net → ℕ → ℕ → List ℕ → List ℕ → List ℕ → List Line
raised e c nets count words befores flags =
    (load (card_bytes c) gives done nets [])
    ∷ (rest (0 ∷ []) gives done 0 [])
    ∷ (vector e (1 ∷ []) gives stepped e count)
    ∷ (history (lent nets) (lent nets) (lent nets) gives done nets (words ∷ befores ∷ flags ∷ []))
    ∷ []

-- "P6: NOT of an input, 0 to 1: before 1, then 1, 0."
abbrev pub p6 : Engine → List Line
p6 e = raised e (input ∷ gate 1 (0 ∷ []) ∷ []) 2 1 (ones ∷ 1 ∷ []) (0 ∷ 1 ∷ []) (1 ∷ 1 ∷ [])

-- "P7: a, b = BUF a, XOR(a,b), a from 0 to 1: 0, 1, 0, flag 2."
abbrev pub p7 : Engine → List Line
p7 e =
    raised e (input ∷ gate 0 (0 ∷ []) ∷ gate 6 (0 ∷ 1 ∷ []) ∷ []) 3 3
    (ones ∷ (ones - 1) ∷ 2 ∷ [])
    (0 ∷ 0 ∷ 0 ∷ [])
    (1 ∷ 1 ∷ 2 ∷ [])

-- "P8: with c = BUF b, XOR(a,b,c): 0, 1, 0, 1, flag 3, PC-set {1,2,3}."
abbrev pub p8 : Engine → List Line
p8 e =
    raised e (input ∷ gate 0 (0 ∷ []) ∷ gate 0 (1 ∷ []) ∷ gate 6 (0 ∷ 1 ∷ 2 ∷ []) ∷ []) 4 5
    (ones ∷ (ones - 1) ∷ (ones - 3) ∷ (ones - 5) ∷ [])
    (0 ∷ 0 ∷ 0 ∷ 0 ∷ [])
    (1 ∷ 1 ∷ 1 ∷ 3 ∷ [])
    ++ ((ask 3 gives known 3 14) ∷ [])

-- "P9: XOR(a,a): PC-set {1}, steady 0."
abbrev pub p9 : Engine → List Line
p9 e =
    raised e (input ∷ gate 6 (0 ∷ 0 ∷ []) ∷ []) 2 1 (ones ∷ 0 ∷ []) (0 ∷ 0 ∷ []) (1 ∷ 0 ∷ [])
    ++ ((ask 1 gives known 1 2) ∷ [])

-- "P10: AND(a, open): steady 0."
abbrev pub p10 : Engine → List Line
p10 e = raised e (input ∷ gate 2 (0 ∷ open_pin ∷ []) ∷ []) 2 1 (ones ∷ 0 ∷ []) (0 ∷ 0 ∷ []) (1 ∷ 0 ∷ [])

unfoldable pub table : Engine → List (List Line)
table e = p1 e ∷ p2 ∷ p3 e ∷ p4 ∷ p5 e ∷ p6 e ∷ p7 e ∷ p8 e ∷ p9 e ∷ p10 e ∷ []
