-- `history::history` meets its contract: its tests are the refusals in their order, and then the words are
-- copied. The loop's invariant: the first i before values and flags are written. Assumes nothing.
use mathlib.Core.Path.{◌≡◌, sym, ap, ◌∙◌}
use mathlib.Core.Bool.{true}
use mathlib.Core.List.{◌++◌}
use mathlib.Core.Logic.{inl, inr}
use Prim.Native.Nat.{◌≤◌}
use native.Mathlib.Omega.{arith}
use lib.ListN.{length, drop, length-take}
use Rattle.lists.proofs.Rooms.{fills_copied, filled_none, filled_turn}
use Rattle.card.proofs.Kept.{few}
use Rattle.history.specs.Told.{before_byte, flag_at}
use Rattle.history.proofs.Ran.{holds}
use Rattle.history.proofs.Histories.{gives_12, gives_18, told}
use Rattle.history.proofs.history.Goals as goal
use Rattle.history.proofs.history.Goals.{Else-flags-n}

-- there the session is rested, and has no more nets than the arrays have places
ready : (c : Else-flags-n) → c.args.s.now.rested ≡ true
ready c = c.if-not-s.false

narrow : (c : Else-flags-n) → c.args.s.now.nets ≤ 256
narrow c = few c.args.s.now (holds c.args.s.now c.requires ((let it : c.args.s.now.rested ≡ true = c.if-not-s.false in it)))

pub returns-then-not-s : goal.returns-then-not-s
returns-then-not-s c = let a = c.args in sym (gives_12 a.s.now a.words.now a.befores.now a.flags.now (c.if-not-s.true))

pub returns-then-words-n : goal.returns-then-words-n
returns-then-words-n c = let a = c.args in sym (gives_18 a.s.now a.words.now a.befores.now a.flags.now (c.if-not-s.false) (inl c.if-words-n.true))

pub returns-then-befores-n : goal.returns-then-befores-n
returns-then-befores-n c = let a = c.args in sym (gives_18 a.s.now a.words.now a.befores.now a.flags.now (c.if-not-s.false) (inr (inl c.if-befores-n.true)))

pub returns-then-flags-n : goal.returns-then-flags-n
returns-then-flags-n c = let a = c.args in sym (gives_18 a.s.now a.words.now a.befores.now a.flags.now (c.if-not-s.false) (inr (inr c.if-flags-n.true)))

pub shared_ref_as_front-copy_from_slice : goal.shared_ref_as_front-copy_from_slice
shared_ref_as_front-copy_from_slice c = narrow (goal.at.shared_ref_as_front-copy_from_slice c).Else-flags-n

pub loop-i-init : goal.loop-i-init
loop-i-init c = (filled_none (before_byte c.args.s.now) c.args.befores.now, filled_none (flag_at c.args.s.now) c.args.flags.now)

pub loop-i-preserved : goal.loop-i-preserved
loop-i-preserved c =
    let a = c.args in
    let l = c.loop-i in (
      filled_turn (before_byte a.s.now) a.befores.now l.i _ l.befores l.invariant.0 c.from.ensures (omega (arith, c.if-befores-n.false)),
      filled_turn (flag_at a.s.now) a.flags.now l.i _ l.flags l.invariant.1 c.flag_of.ensures (omega (arith, c.if-flags-n.false)),
    )

pub returns : goal.returns
returns c =
    let a = c.args in
    let n = a.s.now.nets in
    let copied = c.copy_from_slice.ensures in
    let long : n ≤ length a.s.now.words = omega (arith, copied.len, ap length copied.after, length-take n a.s.now.words, length-take n a.words.now, c.if-words-n.false) in
    let e : c.loop-i.i ≡ n = omega arith in
    told a.s.now a.words.now a.befores.now a.flags.now (ready (goal.at.returns c).Else-flags-n)
    (record { for_words = c.if-words-n.false; for_befores = c.if-befores-n.false; for_flags = c.if-flags-n.false }) _ _ _
    (ap (λ xs. xs ++ drop n a.words.now) copied.after ∙ fills_copied 0 a.s.now.words a.words.now n long c.if-words-n.false)
    (rw e at c.loop-i.invariant.0) (rw e at c.loop-i.invariant.1)
