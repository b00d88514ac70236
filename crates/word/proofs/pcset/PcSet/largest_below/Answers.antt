-- The largest of those below t, with 0 inserted: `zero_below`. Assumes nothing.
use mathlib.Core.Path.{◌∙◌}
use native.Mathlib.Omega.{arith}
use lib.Dec.{lit<}
use Rattle.word.specs.Word.{bit}
use Rattle.word.specs.Times.{no_time}
use Rattle.word.proofs.Bits.{bit_high}
use Rattle.word.proofs.Sets.{zero_below, zero_cong}
use Rattle.word.proofs.pcset.PcSet.largest_below.Goals as goal

pub returns : goal.returns
returns c =
    let w = c.args.self.word in
    c.most.ensures
    ∙ zero_below (bit w) _ 64 c.args.t no_time (lit< tt) c.requires (λ u l. bit_high 64 w u (omega arith) l)
    (λ u. c.with_zero.ensures u ∙ zero_cong _ _ c.below.ensures u)
