use mathlib.Core.List.{List}
use Prim.Native.Nat.{ℕ, ◌+◌, ◌*◌, ◌≤◌}
use lib.ListN.{get_or}
use Rattle.lists.specs.Entries.{each, from}
use Rattle.text.specs.Inner.Put.{Puts}
use Rattle.sheet_text.specs.Lines.{net_line}
use Rattle.sheet_text.proofs.lines.put_nets.Given as goal

-- a net's line, from the arrays
abbrev pub line_in : ℕ → List ℕ → List ℕ → List ℕ → ℕ → List ℕ
line_in depth words befores flags i = net_line depth i (get_or befores i 0) (get_or words i 0) (get_or flags i 0)

abbrev pub invariant-loop-i : goal.invariant-loop-i
invariant-loop-i l = Puts (each (line_in l.depth l.words l.befores l.flags) (from 0 l.i)) l.initial.page l.page × (l.page.at ≤ l.initial.page.at + 77 * l.i)
