-- `sheet_pieces::open_card` meets its contract: the tests, and then what load answers. Assumes nothing.
use mathlib.Core.Path.{◌≡◌, refl, sym, ◌∙◌}
use native.Mathlib.Omega.{arith}
use Rattle.std.proofs.lemmas.Result.{err_from_is_err_and}
use Rattle.rule.specs.Level.{depth}
use Rattle.card.specs.Held.{HasCard}
use Rattle.card.specs.Session.{card_of}
use Rattle.card.proofs.Kept.{loaded_is, depth_loaded}
use Rattle.card.proofs.Verdicts.{load_holds}
use Rattle.sheet_text.specs.Lines.{card_text}
use Rattle.sheet_pieces.specs.declared.Stage.TheVariants.{Going}
use Rattle.sheet_pieces.specs.Pieces.{opened}
use Rattle.sheet_pieces.proofs.Steps.{hand_back, hand_on, card_long, card_loads, bytes_front}
use Rattle.sheet_pieces.proofs.open_card.Goals as goal
use Rattle.sheet_pieces.proofs.open_card.Goals.{In_ok-load, After-depth_of-depth}

pub returns-then-file-gt65536 : goal.returns-then-file-gt65536
returns-then-file-gt65536 c = (sym (card_long c.args.sheet.now c.args.file.now c.if-file-gt65536.true), refl, refl)

pub returns-in_err-load : goal.returns-in_err-load
returns-in_err-load c =
    let a = c.args in
    let p = err_from_is_err_and c.from_residual.result c.from_residual.ensures.1 in
    rw (p.1, p.2)
    (sym (card_loads a.sheet.now a.file.now _ _ _ c.if-file-gt65536.false c.empty-session.ensures c.card_end-at.ensures.0 c.in_err-load.ensures), refl, refl)

-- the session that load left holds a card, and its depth is the card's
held : (c : In_ok-load) → HasCard c.load.new.session
held c =
    let front = bytes_front c.card_end-at.result c.args.file.now (λ i. omega (arith, c.type_inv.file i)) in
    load_holds c.empty-session.result _ front _ c.in_ok-load.ensures _ refl

pub depth_of-depth-requires : goal.depth_of-depth-requires
depth_of-depth-requires c l = held (goal.at.depth_of-depth-requires c).In_ok-load

-- the depth is the card's
depth_is : (c : After-depth_of-depth) → HasCard c.load.new.session → c.depth_of-depth.result ≡ depth (card_of c.load.new.session)
depth_is c h = c.depth_of-depth.ensures ∙ depth_loaded c.load.new.session (loaded_is c.load.new.session h)

pub put_card-length-requires : goal.put_card-length-requires
put_card-length-requires c =
    let h = held (goal.at.put_card-length-requires c).In_ok-load in
    record { has_card = h; depth_value = depth_is (goal.at.put_card-length-requires c).After-depth_of-depth h }

pub returns : goal.returns
returns c =
    let a = c.args in
    let s = c.load.new.session in
    let at = c.card_end-at.result in
    let deep = depth_is (goal.at.returns c).After-depth_of-depth (held (goal.at.returns c).In_ok-load) in
    hand_on a.out.now
    (card_loads a.sheet.now a.file.now _ _ _ c.if-file-gt65536.false c.empty-session.ensures c.card_end-at.ensures.0 c.in_ok-load.ensures)
    (hand_back (record { text = card_text s; after = opened s at })
    (λ i. record { session = s; depth = deep i; at = at; vectors = 0; stage = Going })
    c.put_card-length.ensures)
