-- `trace::Run::first_pin` meets its contract: `find` gives the first pin that changed, if one did. Assumes nothing.
use Rattle.std.proofs.Common.{rules, ◌≡◌, ℕ, refl, sym, ap, subst, ◌∙◌}
use Rattle.std.proofs.lemmas.Iterator.{YieldsList-from_slice}
use Rattle.std.proofs.lemmas.Iterator.Consumers.{YieldsList-from_copied}
use Rattle.std.proofs.lemmas.Iterator.Adapters.{serves_from_places}
use Rattle.std.proofs.lemmas.Iterator.Search.{find_from_yields_List}
use borrow.Author.Tests.{tests}
use Rattle.lists.specs.Entries.{◌∈◌}
use Rattle.lists.proofs.Order.{at_in}
use Rattle.rule.specs.Net.{open_pin}
use Rattle.card_wiring.specs.Layout.{pins_at}
use Rattle.std.specs.Prelude.{Option, Some, None}
use Rattle.std.specs.Option.{option_map, unwrap_or}
use Rattle.trace.specs.Inner.Caused.{moved_at}
use Rattle.trace.proofs.FirstPins.{find_first}
use Rattle.trace.proofs.Run.first_pin.Goals as goal

pub find-requires-clause-callable : goal.find-requires-clause-callable
find-requires-clause-callable c =
    let s = c.args.self.now in
    serves_from_places (YieldsList-from_copied (YieldsList-from_slice (pins_at s.wiring.counts.now s.wiring.places.now c.args.g) (cc))) (λ x q k. search rules)
    (λ x k l e. let readable = s.caused.readable c.args.g x (subst (λ (y : ℕ). y ∈ pins_at s.wiring.counts.now s.wiring.places.now c.args.g) (sym e) (at_in (pins_at s.wiring.counts.now s.wiring.places.now c.args.g) k x l)) in search rules)

pub returns : goal.returns
returns c =
    let s = c.args.self.now in
    let moved = (λ (p : ℕ). moved_at s.before.now s.words.now p c.args.t) in
    let found = find_from_yields_List moved _ _ c.find.result c.find.ensures.ran (YieldsList-from_copied (YieldsList-from_slice (pins_at s.wiring.counts.now s.wiring.places.now c.args.g) (cc))) (λ x b q k. search (rules, tests)) in
    ap (λ r. unwrap_or r open_pin) (sym (same c.find.result) ∙ found) ∙ find_first moved (pins_at s.wiring.counts.now s.wiring.places.now c.args.g)
  where
    same : (r : Option ℕ) → option_map (λ x. x) r ≡ r
    same None = refl
    same (Some x) = refl
