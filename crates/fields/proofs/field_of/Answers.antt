-- `fields::field_of` meets its contract: the gate's field of what its pins come to. Assumes nothing.
use Rattle.std.proofs.Common.{rules}
use mathlib.Core.Path.{◌≡◌, ap, ap₂, ◌∙◌}
use mathlib.Core.List.{map}
use Prim.Native.Nat.{ℕ}
use native.Mathlib.Omega.{arith}
use lib.ListN.{get_or}
use Rattle.word.specs.Word.{bit}
use Rattle.rule.specs.Net.{at_pin}
use Rattle.card_wiring.specs.Layout.{pins_at}
use Rattle.fields.specs.Inner.Fields.{field_of, pin_word}
use Rattle.fields.proofs.Fields.{pin_bit, field_made}
use Rattle.fields.proofs.field_of.Goals as goal

pub rule_of-rule-requires : goal.rule_of-rule-requires
rule_of-rule-requires c = omega (arith, c.from-ty.ensures, c.requires.type)

pub gather-all-requires : goal.gather-all-requires
gather-all-requires c =
    let g = c.requires in
    record { g_bound = (g.net, g.pinned, c.rule_of-rule.ensures.0); readable = λ p q. search rules }

pub returns : goal.returns
returns c =
    let a = c.args in
    let w = a.wiring in
    let ty = c.from-ty.ensures in
    let pins = pins_at w.counts.now w.places.now a.g in
    let word : ℕ → ℕ → ℕ = λ loose p. at_pin loose (λ m. get_or a.words.now m 0) p in
    let all = c.gather-all.ensures (λ p t. pin_bit a.words.now t p)
    (λ p v h t. let own : v ≡ word c.open_word-open.result p = search rules in ap (λ x. bit x t) (own ∙ ap (λ loose. word loose p) c.open_word-open.ensures)) in
    field_made a.words.now w.counts.now w.places.now a.g c.top.result c.rule_of-rule.result.inversion c.from-ty.result c.gather-all.result c.field.result
    (λ l. c.requires.single (omega (arith, ty, l))) c.rule_of-rule.ensures.1 all (omega (arith, c.field.type_inv)) c.field.ensures
    ∙ ap₂ (λ low k. field_of low k (map (pin_word a.words.now) pins)) c.top.ensures ty
