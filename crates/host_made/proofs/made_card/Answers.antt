-- `host_made::made_card` meets its contract. Assumes nothing.
use mathlib.Core.Path.{◌≡◌, sym, ap, ◌∙◌}
use lib.ListN.{get_or}
use Rattle.std.specs.Result.{result_ok}
use Rattle.operations.specs.declared.Engine.TheVariants.{Fields, Steps}
use Rattle.host_bytes.specs.declared.State.{State}
use Rattle.host_bytes.specs.Inner.States.{byte_of}
use Rattle.host_bytes.proofs.States.{tells, tells_none}
use Rattle.host_made.proofs.Making.{card_0, card_1, card_2, card_moved, card_other}
use Rattle.host_made.proofs.made_card.Goals as goal
use Rattle.host_made.proofs.made_card.Goals.{In_ok-ok}

-- byte 0 is the state's
told : (c : In_ok-ok) (state : State) → c.in_ok-ok.field-0 ≡ state → get_or c.args.b.now 0 0 ≡ byte_of state
told c state e =
    let told = ap result_ok c.try_from.ensures in
    tells (get_or c.args.b.now 0 0) c.in_ok-ok.field-0 (sym told ∙ sym c.ok.ensures.value ∙ c.in_ok-ok.was) ∙ ap byte_of e

pub returns-in_err-ok : goal.returns-in_err-ok
returns-in_err-ok c =
    let a = c.args in
    let told = ap result_ok c.try_from.ensures in
    let other = tells_none (get_or a.b.now 0 0) (sym told ∙ sym c.ok.ensures.value ∙ c.in_err-ok.was) in
    c.from_residual.ensures ∙ card_other a.b.now a.s other.1 other.2 other.3 other.4

pub returns-in-Empty : goal.returns-in-Empty
returns-in-Empty c = let a = c.args in card_0 a.b.now a.s (told (goal.at.returns-in-Empty c).In_ok-ok _ c.in-Empty.is)

pub returns-in-Loaded : goal.returns-in-Loaded
returns-in-Loaded c = let a = c.args in c.made_plain.ensures ∙ card_1 a.b.now a.s (told (goal.at.returns-in-Loaded c).In_ok-ok _ c.in-Loaded.is)

pub returns-in-Rested : goal.returns-in-Rested
returns-in-Rested c = let a = c.args in c.made_rested.ensures ∙ card_2 a.b.now a.s (told (goal.at.returns-in-Rested c).In_ok-ok _ c.in-Rested.is)

pub returns-in-Fields : goal.returns-in-Fields
returns-in-Fields c = let a = c.args in c.made_moved.ensures ∙ card_moved a.b.now a.s Fields (told (goal.at.returns-in-Fields c).In_ok-ok _ c.in-Fields.is)

pub returns-in-Steps : goal.returns-in-Steps
returns-in-Steps c = let a = c.args in c.made_moved-in-Steps.ensures ∙ card_moved a.b.now a.s Steps (told (goal.at.returns-in-Steps c).In_ok-ok _ c.in-Steps.is)
