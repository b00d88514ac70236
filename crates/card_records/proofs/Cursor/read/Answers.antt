-- The record at the cursor: at each return the tests that led there say which case of `Found` it is, and `read_as` that this is what
-- `record_read` says. Assumes nothing.
use mathlib.Core.Path.{◌≡◌, refl, sym, ap, ◌∙◌}
use mathlib.Core.Bool.{true}
use Prim.Native.Nat.{ℕ, ◌+◌, ◌≤◌}
use native.Mathlib.Omega.{arith}
use lib.ListN.{length, get_or}
use borrow.Author.Rules.{rules}
use Rattle.std.specs.Prelude.{Result, Ok}
use Rattle.std.proofs.lemmas.Result.{err_from_is_err_and}
use Rattle.card_records.specs.declared.Fault.{Fault}
use Rattle.card_records.specs.declared.Record.{Record}
use Rattle.card_records.specs.declared.Record.TheVariants.{Net}
use Rattle.card_records.specs.Bytes.{kind_fits, u16_at, record_read}
use Rattle.card_records.specs.Inner.Named.{kind_number}
use Rattle.card_records.proofs.Named.{named_is, unnamed}
use Rattle.card_records.proofs.Found.{Whole, Found, no_head, bad_head, no_body, bad_body, end, net, read_as}
use Rattle.card_records.proofs.Cursor.read.Goals as goal
use Rattle.card_records.proofs.Cursor.read.Goals.{In_ok-kind, Else-n-body, Else-not-body_fits, Else-not-fits}

-- the head's kind is named by its number
numbered : (c : In_ok-kind) → kind_number c.in_ok-kind.kind ≡ u16_at c.args.s.now (c.args.self.at + 2)
numbered c = named_is _ _ (sym c.try_from.ensures ∙ c.in_ok-kind.was) ∙ c.u16_at.ensures.0

there : (c : In_ok-kind) → c.args.self.at + 4 ≤ length c.args.s.now
there c = omega arith

reads : (c : In_ok-kind) → (first : ℕ) → first ≡ get_or c.args.s.now (c.args.self.at + 4) 0 → (r : Result Record Fault)
    → Found (length c.args.s.now) c.args.self.at (kind_number c.in_ok-kind.kind) c.u16_at-len.result first r → r ≡ record_read c.args.s.now c.args.self.at
reads c first e r f = read_as c.args.s.now c.args.self.at (kind_number c.in_ok-kind.kind) c.u16_at-len.result first r (numbered c) c.u16_at-len.ensures.0 e f

-- the length fits the kind, the body is there, and its contents are right
fits : (c : Else-not-fits) → kind_fits (kind_number c.in_ok-kind.kind) c.u16_at-len.result ≡ true
fits c = sym c.fits.ensures ∙ c.if-not-fits.false

inside : (c : Else-n-body) → c.args.self.at + 4 + c.u16_at-len.result ≤ length c.args.s.now
inside c = omega arith

opening : (c : Else-not-body_fits) → c.unwrap_or-first.result ≡ get_or c.args.s.now (c.args.self.at + 4) 0
opening c = search rules

whole : (c : Else-not-body_fits) → Whole (length c.args.s.now) c.args.self.at (kind_number c.in_ok-kind.kind) c.u16_at-len.result c.unwrap_or-first.result
whole c =
    record {
      inside = (let it : c.args.self.at + 4 + c.u16_at-len.result ≤ length c.args.s.now = omega arith in it);
      head = sym c.fits.ensures ∙ c.if-not-fits.false;
      body = sym c.body_fits.ensures ∙ c.if-not-body_fits.false;
    }

pub returns-then-n-at : goal.returns-then-n-at
returns-then-n-at c = read_as _ _ _ _ _ _ refl refl refl (no_head (omega arith))

pub returns-then-n-at-lt4 : goal.returns-then-n-at-lt4
returns-then-n-at-lt4 c = read_as _ _ _ _ _ _ refl refl refl (no_head (omega arith))

pub returns-in_err-kind : goal.returns-in_err-kind
returns-in_err-kind c =
    let p = err_from_is_err_and c.from_residual.result c.from_residual.ensures.1 in
    let u = unnamed _ _ (sym c.try_from.ensures ∙ c.in_err-kind.was) in
    rw (p.1, p.2, u.0) (read_as _ _ _ _ _ _ c.u16_at.ensures.0 c.u16_at-len.ensures.0 refl (bad_head (omega arith) (u.1 _)))

pub returns-then-not-fits : goal.returns-then-not-fits
returns-then-not-fits c =
    let at = (goal.at.returns-then-not-fits c).In_ok-kind in
    reads at _ refl _ (bad_head (there at) (sym c.fits.ensures ∙ c.if-not-fits.true))

pub returns-then-n-body : goal.returns-then-n-body
returns-then-n-body c =
    let at = (goal.at.returns-then-n-body c).In_ok-kind in
    reads at _ refl _ (no_body (there at) (fits (goal.at.returns-then-n-body c).Else-not-fits) (omega arith))

pub returns-then-not-body_fits : goal.returns-then-not-body_fits
returns-then-not-body_fits c =
    let first : c.unwrap_or-first.result ≡ get_or c.args.s.now (c.args.self.at + 4) 0 = search rules in
    let at = goal.at.returns-then-not-body_fits c in
    reads at.In_ok-kind _ first _ (bad_body (inside at.Else-n-body) (fits at.Else-not-fits) (sym c.body_fits.ensures ∙ c.if-not-body_fits.true))

pub returns-then-eq : goal.returns-then-eq
returns-then-eq c =
    let at = goal.at.returns-then-eq c in
    let last : kind_number c.in_ok-kind.kind ≡ 4 = search rules in
    reads at.In_ok-kind _ (opening at.Else-not-body_fits) _ (end (whole at.Else-not-body_fits) last)

pub returns : goal.returns
returns c =
    let at = goal.at.returns c in
    let more : ¬ (kind_number c.in_ok-kind.kind ≡ 4) = search rules in
    ap (λ r. Ok (Net r)) c.net_record.ensures ∙ reads at.In_ok-kind _ (opening at.Else-not-body_fits) _ (net (whole at.Else-not-body_fits) more)
