-- A pass along an order of the gates, on an array with an entry a net: each gate's entry becomes its function of its pins' entries. It is
-- `run` on the nets, where the open pin has the value that a loose pin reads. Over any pins, functions and start. Assumes nothing.
use mathlib.Core.Path.{◌≡◌, refl, sym, ap, ◌∙◌}
use mathlib.Core.Bool.{true}
use mathlib.Core.List.{List, [], ◌∷◌, ◌++◌, map}
use mathlib.Core.Logic.{◌⊎◌}
use Prim.Native.Nat.{ℕ, ◌+◌, ◌≤◌, ◌<◌}
use native.Mathlib.Omega.{arith}
use lib.Dec.{eqb}
use lib.ListN.{get_or, set}
use borrow.Author.Tests.{eq-eqb, ne_eqb, eqb-true}
use Rattle.lists.specs.Entries.{◌∈◌}
use Rattle.lists.specs.Listed.{listed}
use Rattle.lists.proofs.Listed.{listed_more, listed_set, out_listed}
use Rattle.rule.specs.Net.{open_pin, at_pin}
use Rattle.rule.specs.Run.{step, run}
use Rattle.rule.proofs.Nets.{not_open}
use Rattle.rule.proofs.Runs.{step_own, step_leaves_others, made_is, run_more, run_leaves_others}
use Rattle.card_wiring.proofs.Pins.{pins_read}

self : (g : ℕ) → eqb g g ≡ true
self g = eq-eqb g g refl

module _ (pins : ℕ → List ℕ) (fn : ℕ → List ℕ → ℕ) (start : ℕ → ℕ) (loose : ℕ) (open-start : start open_pin ≡ loose) where
  abbrev along : List ℕ → ℕ → ℕ
  along = run eqb pins fn start

  -- no gate of an order writes the open pin
  open_along : (order : List ℕ) → ((x : ℕ) → x ∈ order → x < 256) → along order open_pin ≡ loose
  open_along order below =
      run_leaves_others eqb pins eqb-true self fn start order open_pin (λ x m. ne_eqb open_pin x (λ e. not_open x (omega (arith, below x m)) (sym e))) ∙ open-start

  -- one gate more
  along_step : (n g : ℕ) (order : List ℕ) → n ≤ 256 → ((p : ℕ) → p ∈ pins g → (p < n) ⊎ (p ≡ open_pin)) → g < 256 → ((x : ℕ) → x ∈ order → x < 256)
      → set (listed (along order) 256) g (fn g (map (at_pin loose (λ m. get_or (listed (along order) 256) m 0)) (pins g))) ≡ listed (along (order ++ (g ∷ []))) 256
  along_step n g order few named l below =
      listed_set (along order) (step eqb pins fn (along order) g) 256 g _ l
      (step_own eqb pins eqb-true self fn (along order) g ∙ made_is eqb pins eqb-true self fn (along order) g
      ∙ ap (fn g) (sym (pins_read (along order) loose n (pins g) few named (open_along order below))))
      (λ x b q. step_leaves_others eqb pins eqb-true self fn (along order) g x (ne_eqb x g q))
      ∙ ap (λ s. listed s 256) (sym (run_more eqb pins eqb-true self fn start order g))

  -- gate g, the i-th of an order, with what it makes of its pins' entries
  pub pass_more : (n : ℕ) → n ≤ 256 → ((g p : ℕ) → p ∈ pins g → (p < n) ⊎ (p ≡ open_pin)) → (f : ℕ → ℕ) (i : ℕ) → ((j : ℕ) → j ≤ i → f j < 256)
      → (g r : ℕ) (xs : List ℕ) → g ≡ f i → xs ≡ listed (along (listed f i)) 256 → r ≡ fn g (map (at_pin loose (λ m. get_or xs m 0)) (pins g))
      → set xs g r ≡ listed (along (listed f (i + 1))) 256
  pass_more n few fitting f i below g r xs a b e =
      rw (e, b, a, listed_more f i)
      (along_step n (f i) (listed f i) few (fitting (f i)) (below i (omega arith)) (λ x m. let o = out_listed f i x m in rw o.2 (below o.0 (omega (arith, o.1)))))
