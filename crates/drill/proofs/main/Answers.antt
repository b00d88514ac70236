-- The room for a script is lent whole. Its length is cited, not counted. Assumes nothing.
use mathlib.Core.Path.{sym}
use Prim.Native.Nat.{ℕ}
use lib.ListN.{length-replicate}
use Rattle.drill.proofs.main.Goals as goal

pub slice_bounds-serve-end : goal.slice_bounds-serve-end
slice_bounds-serve-end c = sym (length-replicate {A = ℕ} 4194305 0)
