-- What a step reads: for each pin of its gate one variable, the pin's, of an earlier time. Assumes nothing.
use mathlib.Core.Path.{◌≡◌, refl}
use mathlib.Core.List.{List, map}
use Prim.Native.Nat.{ℕ, ◌<◌}
use Rattle.lists.specs.Entries.{◌∈◌}
use Rattle.lists.proofs.Tests.{map_on, out_map}
use Rattle.word.specs.Times.{greatest, no_time, zero_in}
use Rattle.word.proofs.Sets.{zero_lt}
use Rattle.rule.specs.Net.{Net, pins}
use Rattle.rule.specs.Chain.{pc_set}
use Rattle.rule.specs.Steps.{Step, read_at, step_reads}

module _ (c : List Net) where
  -- the time of a variable that is read is below the step's
  pub read_below : (t p : ℕ) → 0 < t → (read_at c t p).time < t
  unfolding read_at
  read_below t p later = zero_lt (pc_set c p) t no_time later

  -- a variable that a step reads is that of a pin
  pub read_pin : (k j : Step) → j ∈ step_reads c k → (p : ℕ) × (p ∈ pins c k.net) × (j ≡ read_at c k.time p)
  unfolding step_reads
  read_pin k j m = out_map (read_at c k.time) (pins c k.net) j m

  -- any reading that names the same variable for each pin is the step's
  pub reads_by_pin : (k : Step) (read : ℕ → Step) → ((p : ℕ) → p ∈ pins c k.net → read p ≡ read_at c k.time p)
      → map read (pins c k.net) ≡ step_reads c k
  unfolding step_reads
  reads_by_pin k read same = map_on read (read_at c k.time) (pins c k.net) same

  -- the variable that is read of a pin, by its net and its time
  pub read_named : (t p : ℕ) → read_at c t p ≡ record { net = p; time = greatest (zero_in (pc_set c p)) t no_time }
  unfolding read_at
  read_named t p = refl
