-- `text::Page::put_decimal` meets its contract: its last digit after those ahead of it. Assumes nothing.
use mathlib.Core.Path.{sym, ap}
use native.Mathlib.Omega.{arith}
use lib.ListN.{length}
use Rattle.text.proofs.Texts.{puts_same, puts_then, decimal_low, decimal_high, length_more}
use Rattle.text.proofs.Page.+put_decimal.Goals as goal

pub put-requires : goal.put-requires
put-requires t c = omega (arith, ap length (decimal_low c.args.n c.if-n-lt10.true))

pub put_decimal-requires : goal.put_decimal-requires
put_decimal-requires t c = (omega arith, omega (arith, length_more c.args.n c.if-n-lt10.false))

pub put-requires-else-n-lt10 : goal.put-requires-else-n-lt10
put-requires-else-n-lt10 t c = omega (arith, length_more c.args.n c.if-n-lt10.false, c.put_decimal.ensures.put.end_is)

pub returns-then-n-lt10 : goal.returns-then-n-lt10
returns-then-n-lt10 t c = puts_same (sym (decimal_low c.args.n c.if-n-lt10.true)) c.put.ensures

pub returns-else-n-lt10 : goal.returns-else-n-lt10
returns-else-n-lt10 t c = puts_same (sym (decimal_high c.args.n c.if-n-lt10.false)) (puts_then c.put_decimal.ensures c.put-else-n-lt10.ensures)
