-- One step more stands in the list. Assumes nothing.
use native.Mathlib.Omega.{arith}
use Rattle.step_list.proofs.Lists.{hold_put}
use Rattle.step_list.proofs.put_step.Goals as goal

pub returns : goal.returns
returns c ks nets₀ times₀ ln lt h =
    let a = c.args in
    hold_put ks nets₀ times₀ _ _ a.at h (record { net = a.g; time = a.t }) (omega arith) (omega arith)
