-- The card that the bytes mean: the loop keeps `Walk`, and each record ends it or goes on as the walk's laws say. The room for more nets
-- falls. Assumes nothing.
use mathlib.Core.Path.{◌≡◌, sym, ap, ◌∙◌}
use Prim.Native.Nat.{◌<◌}
use native.Mathlib.Omega.{arith}
use Rattle.std.specs.Prelude.{Ok}
use Rattle.std.proofs.lemmas.Result.{err_from_is_err_and}
use Rattle.card_records.specs.declared.Record.TheVariants.{End, Net}
use Rattle.card_records.specs.Bytes.{record_read}
use Rattle.card_records.specs.Inner.Reading.{parsed_of}
use Rattle.card_records.proofs.Meant.{Meant, meant}
use Rattle.card_records.proofs.Walk.{begin, bad, after, full, done, more}
use Rattle.card_records.proofs.parse.Goals as goal
use Rattle.card_records.proofs.parse.Goals.{Else-n-eq256, In-End, In-Net}

-- what was read: the end, or a net
ended : (c : In-End) → record_read c.args.s.now c.loop-next.at ≡ Ok (End c.in-End.next)
ended c = sym c.read.ensures ∙ c.in_ok-next.was ∙ ap Ok c.in-End.is

netted : (c : In-Net) → record_read c.args.s.now c.loop-next.at ≡ Ok (Net c.in-Net.r)
netted c = sym c.read.ensures ∙ c.in_ok-next.was ∙ ap Ok c.in-Net.is

pub loop-next-init : goal.loop-next-init
loop-next-init c = begin _

pub returns-in_err-next : goal.returns-in_err-next
returns-in_err-next c =
    let p = err_from_is_err_and c.from_residual.result c.from_residual.ensures.1 in
    rw (p.1, p.2) (ap parsed_of (sym (bad c.loop-next.invariant _ (sym c.read.ensures ∙ c.in_err-next.was))))

pub returns-then-next-s : goal.returns-then-next-s
returns-then-next-s c =
    ap parsed_of (sym (after c.loop-next.invariant _ (ended (goal.at.returns-then-next-s c).In-End) (λ e. omega arith)))

pub returns-in-End : goal.returns-in-End
returns-in-End c = done c.loop-next.invariant _ (ended (goal.at.returns-in-End c).In-End) c.if-next-s.false

pub returns-then-n-eq256 : goal.returns-then-n-eq256
returns-then-n-eq256 c = ap parsed_of (sym (full c.loop-next.invariant _ (netted (goal.at.returns-then-n-eq256 c).In-Net) (omega arith)))

-- past the test for room: the net that was read, and its place below 256
known : (c : Else-n-eq256) → Meant c.args.s.now c.in-Net.r
known c = meant _ _ _ (sym c.read.ensures ∙ c.in_ok-next.was ∙ ap Ok c.in-Net.is)

few : (c : Else-n-eq256) → c.loop-next.card.nets < 256
few c = let room = c.loop-next.invariant.room in omega arith

pub overflow_cast-card : goal.overflow_cast-card
overflow_cast-card c = let narrow = (known (goal.at.overflow_cast-card c).Else-n-eq256).narrow in omega arith

pub put_pins-requires : goal.put_pins-requires
put_pins-requires c =
    let at = (goal.at.put_pins-requires c).Else-n-eq256 in
    (few at, (known at).narrow, (known at).inside)

pub loop-next-preserved : goal.loop-next-preserved
loop-next-preserved c =
    let at = goal.at.loop-next-preserved c in
    rw c.put_pins.ensures (more c.loop-next.invariant _ (netted at.In-Net) (few at.Else-n-eq256))
