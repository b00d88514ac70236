-- `sheet_text::lines::put_net` meets its contract: its parts one after another, none longer than its share of the 77 bytes. Assumes nothing.
use mathlib.Core.Path.{ap₂}
use native.Mathlib.Omega.{arith}
use Rattle.text.proofs.Texts.{puts_same, puts_then}
use Rattle.sheet_text.specs.Lines.{blank, lf, net_line}
use Rattle.sheet_text.proofs.Lengths.{byte_short, values_length, line_short}
use Rattle.sheet_text.proofs.lines.put_net.Goals as goal

pub put_number-requires : goal.put_number-requires
put_number-requires c = omega (arith, byte_short c.args.net blank c.requires.1)

pub put_number-requires-2 : goal.put_number-requires-2
put_number-requires-2 c =
    omega (arith, c.put_number.ensures.put.end_is, byte_short c.args.net blank c.requires.1, byte_short c.from.result blank (omega arith))

pub put_values-requires : goal.put_values-requires
put_values-requires c = (
  c.requires.0,
  omega (
    arith,
    c.requires.0,
    c.put_number.ensures.put.end_is,
    c.put_number-2.ensures.put.end_is,
    byte_short c.args.net blank c.requires.1,
    byte_short c.from.result blank (omega arith),
  ),
)

pub put-requires : goal.put-requires
put-requires c =
    omega (
      arith,
      c.requires.0,
      c.put_number.ensures.put.end_is,
      c.put_number-2.ensures.put.end_is,
      c.put_values.ensures.put.end_is,
      byte_short c.args.net blank c.requires.1,
      byte_short c.from.result blank (omega arith),
      values_length c.args.word c.args.depth,
    )

pub put_number-requires-3 : goal.put_number-requires-3
put_number-requires-3 c =
    omega (
      arith,
      c.requires.0,
      c.put_number.ensures.put.end_is,
      c.put_number-2.ensures.put.end_is,
      c.put_values.ensures.put.end_is,
      c.put.ensures.put.end_is,
      byte_short c.args.net blank c.requires.1,
      byte_short c.from.result blank (omega arith),
      values_length c.args.word c.args.depth,
      byte_short c.from-2.result lf (omega arith),
    )

pub returns : goal.returns
unfolding net_line
returns c =
    let a = c.args in
    let middle = puts_then c.put_values.ensures c.put.ensures in
    let put = puts_then c.put_number.ensures (puts_then c.put_number-2.ensures (puts_then middle c.put_number-3.ensures)) in
    let line = puts_same (ap₂ (λ x y. net_line a.depth a.net x a.word y) c.from.ensures c.from-2.ensures) put in
    (line, omega (arith, line.put.end_is, line_short a.depth a.net a.before a.word a.flag c.requires.0 c.requires.1 (omega arith) (omega arith)))
