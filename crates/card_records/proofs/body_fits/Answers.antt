-- Whether a body's contents are right: `body_fits`, at the kind that the arm names. A gate's length is at least 3. Assumes nothing.
use mathlib.Core.Logic.{inl, inr}
use mathlib.Core.Path.{ap, ◌∙◌}
use Prim.Native.Nat.{ℕ}
use native.Mathlib.Omega.{arith}
use Rattle.card_records.specs.Bytes.{body_fits, type_fits, pin_count}
use Rattle.card_records.specs.Inner.Named.{kind_number}
use Rattle.card_records.proofs.Heads.{gate_length}
use Rattle.card_records.proofs.body_fits.Goals as goal

pub overflow_sub-len : goal.overflow_sub-len
overflow_sub-len c = omega (arith, gate_length _ _ c.requires (ap kind_number c.in-Gate.is))

pub returns-in-Constant : goal.returns-in-Constant
unfolding body_fits
returns-in-Constant c = rw c.in-Constant.is

pub returns-in-Gate : goal.returns-in-Gate
unfolding body_fits
returns-in-Gate c = rw c.in-Gate.is (c.type_fits.ensures ∙ ap (λ (ty : ℕ). type_fits ty (pin_count c.args.len)) c.from.ensures)

pub returns-in-Input : goal.returns-in-Input
unfolding body_fits
returns-in-Input c = elim c.in-Input.is [ inl e ↦ rw e | inr e ↦ rw e ]
