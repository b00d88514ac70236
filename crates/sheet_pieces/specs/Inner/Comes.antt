-- Inner: cited by contracts between functions alone, and by laws. What a step of `next` comes to, ahead of the line of a refusal. With that line
-- it is the piece: `comes_refused` (sheet_pieces/proofs/Steps.antt). Assumes nothing.
use Rattle.std.specs.Prelude.{◌≡◌, List, Result, Ok, Err, ℕ}
use Rattle.rule.specs.declared.Refusal.{Refusal}
use Rattle.sheet_pieces.specs.declared.Sheet.{Sheet}
use Rattle.sheet_pieces.specs.Pieces.{Portion, Written, refused_piece, written}

-- a piece that is written, or a refusal, which leaves sheet and page as they were
abbrev pub Comes : Portion → Sheet → List ℕ → Result ℕ Refusal → Sheet → List ℕ → Type 0
Comes p sheet page (Ok n) after new = ◌≡◌ {A = Written} (record { piece = record { sheet = after; length = n }; page = new }) (written p page)
Comes p sheet page (Err why) after new = (p ≡ refused_piece sheet why) × (after ≡ sheet) × (new ≡ page)
