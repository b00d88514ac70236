-- The step list in lent room. "Step list: 12 (card only), 18"; "step list its length". Assumes nothing.
use Rattle.std.specs.Prelude.{cond, ◌&&◌, List, ℕ, leb, length}
use Rattle.lists.specs.Filled.{filled}
use Rattle.rule.specs.Steps.{step_at, step_list}
use Rattle.rule.specs.declared.Refusal.TheVariants.{NotReady, NoRoom}
use Rattle.rule.specs.Answers.{Answer}
use Rattle.std.specs.Prelude.{Ok, Err}
use Rattle.card.specs.declared.Session.{Session}
use Rattle.card.specs.Session.{card_of}

pub record Listed : Type 0 where
  pub answer : Answer
  pub nets : List ℕ
  pub times : List ℕ

-- "Steps are numbered from 0 by level, then net, then time. The step list goes to the lent place as records of net and time."
unfoldable pub list_of : Session → List ℕ → List ℕ → Listed
list_of s nets times =
    let ks = step_list (card_of s) in
    let kept : Answer → Listed = λ a. record { answer = a; nets = nets; times = times } in
    cond s.loaded
    (cond (leb (length ks) (length nets) && leb (length ks) (length times))
    (record { answer = Ok (length ks); nets = filled (λ e. (step_at ks e).net) (length ks) nets; times = filled (λ e. (step_at ks e).time) (length ks) times })
    (kept (Err NoRoom)))
    (kept (Err NotReady))
