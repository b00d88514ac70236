-- `sheet_text::lines::put_nets` meets its contract. The loop's invariant: the lines of the nets below i are put, with at most 77 bytes each. Assumes nothing.
use mathlib.Core.Path.{◌≡◌, ap}
use native.Mathlib.Omega.{arith}
use Rattle.lists.specs.Entries.{each, from}
use Rattle.text.proofs.Texts.{puts_none, puts_same}
use Rattle.sheet_text.proofs.Lengths.{lines_more}
use Rattle.sheet_text.proofs.lines.put_nets.Invariants.{line_in}
use Rattle.sheet_text.proofs.lines.put_nets.Goals as goal

pub loop-i-init : goal.loop-i-init
loop-i-init c = (puts_none _, omega arith)

pub put_net-requires : goal.put_net-requires
put_net-requires c = (c.requires.0, omega (arith, c.requires.1), omega (arith, c.requires.2, c.loop-i.invariant.1))

pub loop-i-preserved : goal.loop-i-preserved
loop-i-preserved c =
    let a = c.args in
    let l = c.loop-i in (
      lines_more (line_in a.depth a.words.now a.befores.now a.flags.now) l.i l.invariant.0 c.put_net.ensures.0,
      omega (arith, l.invariant.1, c.put_net.ensures.1),
    )

pub returns : goal.returns
returns c =
    let a = c.args in
    let e : c.loop-i.i ≡ a.n = omega arith in
    puts_same (ap (λ k. each (line_in a.depth a.words.now a.befores.now a.flags.now) (from 0 k)) e) c.loop-i.invariant.0
