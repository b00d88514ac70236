use Prim.Native.Nat.{◌*◌}
use lib.ListN.{drop}
use Rattle.drill_words.specs.Digits.{bytes_of}
use Rattle.drill_words.proofs.Filling.{Filling}
use Rattle.drill_words.proofs.digits.hex_into.Given as goal

abbrev pub invariant-loop-i : goal.invariant-loop-i
invariant-loop-i l = Filling (bytes_of l.word) l.initial.out l.out l.i (bytes_of (drop (2 * l.i) l.word))
