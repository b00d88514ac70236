-- The bytes that digits spell: those of the digits ahead of 2 i stand in the room. Assumes nothing.
use mathlib.Core.Path.{◌≡◌, refl, subst}
use Prim.Native.Nat.{◌/◌}
use native.Mathlib.Omega.{arith}
use lib.ListN.{length}
use Rattle.drill_words.specs.Filled.{Filled}
use Rattle.drill_words.proofs.Filling.{filling_none, hex_more, hex_all}
use Rattle.drill_words.proofs.digits.hex_into.Goals as goal

pub loop-i-init : goal.loop-i-init
loop-i-init c = filling_none _ _

pub loop-i-preserved : goal.loop-i-preserved
loop-i-preserved c = let l = c.loop-i in hex_more _ _ _ l.i _ (omega arith) c.byte_of.ensures (omega (arith, l.invariant.size)) l.invariant

pub returns : goal.returns
returns c =
    let l = c.loop-i in
    let all : l.i ≡ length c.args.word.now / 2 = omega arith in
    (refl, subst (Filled _ _ _) all (hex_all _ _ _ l.i (omega arith) l.invariant))
