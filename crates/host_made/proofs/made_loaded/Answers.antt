-- `host_made::made_loaded` meets its contract. Assumes nothing.
use mathlib.Core.Path.{◌≡◌, sym, ap, subst, ◌∙◌}
use Prim.Native.Nat.{◌≤◌}
use native.Mathlib.Omega.{arith}
use Rattle.lists.specs.Places.{part}
use Rattle.lists.proofs.Places.{part_of}
use Rattle.card.specs.Session.{none}
use Rattle.card.specs.Load.{load_of}
use Rattle.session.specs.Good.{Good}
use Rattle.session.proofs.Kept.{none_good, load_good}
use Rattle.host_bytes.specs.Layout.{card_at}
use Rattle.host_bytes.proofs.Bytes.{part_bytes}
use Rattle.host_made.specs.Made.{made_card}
use Rattle.host_made.proofs.Making.{few_inputs, ok_refused, ok_done, loaded_refused, loaded_is}
use Rattle.host_made.proofs.made_loaded.Goals as goal
use Rattle.host_made.proofs.made_loaded.Goals.{After-load}

-- the bytes that are loaded are the card's part
loaded : (c : After-load) → record { answer = c.load.result; session = c.load.new.session } ≡ load_of none (part c.args.b.now card_at c.args.len)
loaded c = rw (c.empty-s.ensures, part_of) at c.load.ensures

pub made_card-requires-clause-good : goal.made_card-requires-clause-good
made_card-requires-clause-good c =
    let b = c.args.b.now in
    let card = part b card_at c.args.len in
    let bytes = part_bytes b (λ i. omega (arith, c.type_inv.b i)) card_at c.args.len in
    let e = loaded (goal.at.made_card-requires-clause-good c).After-load in
    let done = ok_done c.load.result _ (sym c.ok.ensures.value ∙ c.in_ok-ok.was) in (
      subst (λ x. Good x.session) (sym e) (load_good none card none_good bytes),
      subst (λ x. x.session.inputs ≤ 256) (sym e) (few_inputs card bytes _ (sym (ap (λ x. x.answer) e) ∙ done)),
    )

pub returns-in_err-ok : goal.returns-in_err-ok
returns-in_err-ok c =
    let a = c.args in
    let e = loaded (goal.at.returns-in_err-ok c).After-load in
    let refused = ok_refused c.load.result (sym c.ok.ensures.value ∙ c.in_err-ok.was) in
    c.from_residual.ensures ∙ loaded_refused a.b.now a.len refused.0 (sym (ap (λ x. x.answer) e) ∙ refused.1)

pub returns : goal.returns
returns c =
    let a = c.args in
    let e = loaded (goal.at.returns c).After-load in
    let done = ok_done c.load.result _ (sym c.ok.ensures.value ∙ c.in_ok-ok.was) in
    c.made_card.ensures ∙ ap (λ x. made_card a.b.now x.session) e ∙ loaded_is a.b.now a.len _ (sym (ap (λ x. x.answer) e) ∙ done)
