-- A net's record: `net_record`, at the kind that the arm names. A gate's length is at least 3. Assumes nothing.
use mathlib.Core.Logic.{inl, inr}
use mathlib.Core.Path.{ap}
use native.Mathlib.Omega.{arith}
use Rattle.card_records.specs.Bytes.{net_record}
use Rattle.card_records.specs.Inner.Named.{kind_number}
use Rattle.card_records.proofs.Heads.{gate_length}
use Rattle.card_records.proofs.net_record.Goals as goal
use Rattle.card_records.proofs.net_record.Goals.{in-Input, in-Constant, in-Gate}

pub overflow_sub-ty : goal.overflow_sub-ty
overflow_sub-ty c = omega (arith, gate_length _ _ c.requires.fits (ap kind_number c.in-Gate.is))

pub returns : goal.returns
unfolding net_record
returns c =
    elim c.match-kind.branch [
      | in-Input w ↦ rw (c.from.ensures, w.in-Input.is, w.ty-is)
      | in-Constant w ↦ elim w.in-Constant.is [ inl e ↦ rw (c.from.ensures, e, w.ty-is) | inr e ↦ rw (c.from.ensures, e, w.ty-is) ]
      | in-Gate w ↦ rw (c.from.ensures, w.in-Gate.is, w.ty-is)
    ]
