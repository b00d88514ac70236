use mathlib.Core.Path.{◌≡◌}
use lib.ListN.{length}
use Rattle.drill_words.specs.Orders.{order_spelled}
use Rattle.drill_words.proofs.Filling.{Filling}
use Rattle.drill_words.proofs.Ordering.{others}
use Rattle.drill_words.proofs.orders.order_into.Given as goal

abbrev pub invariant-loop-part : goal.invariant-loop-part
invariant-loop-part l = (l.n ≡ length l.yielded) × Filling (order_spelled l.word) l.initial.out l.out l.n (others l.word l.n)
