-- `step_run::advance` meets its contract: the variables start as the contract says, and are 256 words. Assumes nothing.
use mathlib.Core.Path.{◌≡◌, sym, ap, subst, ◌∙◌}
use Rattle.inputs.specs.Inner.Starts.{tops_of}
use Rattle.step_vars.specs.Variables.{histories_from}
use Rattle.step_vars.specs.Inner.Variables.{Words, start_in}
use Rattle.step_vars.proofs.Stores.{start_words}
use Rattle.step_list.specs.Inner.Listing.{steps_named}
use Rattle.step_run.specs.Runs.{Ran, ran}
use Rattle.step_run.specs.Inner.Runs.{stepped}
use Rattle.step_run.proofs.advance.Goals as goal
use Rattle.step_run.proofs.advance.Goals.{After-start-vars}

started : (c : After-start-vars) → c.start-vars.result ≡ (let a = c.args in start_in (tops_of a.words.now) a.feeds.now a.v.now)
started c = let a = c.args in c.start-vars.ensures ∙ ap (λ b. start_in b a.feeds.now a.v.now) c.tops-before.ensures

pub run_list-count-requires : goal.run_list-count-requires
run_list-count-requires c =
    record { words = subst Words (sym (started (goal.at.run_list-count-requires c).After-start-vars)) (start_words _ _ _); doable = c.requires.doable }

pub returns : goal.returns
unfolding stepped
returns c =
    let a = c.args in
    let k = a.circuit in
    let ks = steps_named a.list.nets.now a.list.times.now a.list.total in
    let along = c.run_list-count.ensures ∙ ap (λ vars. ran k.types.now k.wiring.counts.now k.wiring.places.now k.sets.now vars ks) (started (goal.at.returns c).After-start-vars) in
    ap (λ ws. record { words = ws; count = c.run_list-count.result }) c.histories_from-words.ensures
    ∙ ap (λ (x : Ran). record { words = histories_from k.sets.now x.words; count = x.count }) along
