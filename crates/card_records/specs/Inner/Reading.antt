-- Inner: cited by contracts between functions alone, and by laws. The head of a net's record, pins laid at their places, and a card's arrays as reading
-- leaves them. They are the card's: `judge_laid` (card/proofs/Reading.antt). Assumes nothing.
use Rattle.std.specs.Prelude.{◌≡◌, true, List, ℕ, zero, suc, ◌+◌, ◌^◌, ◌<◌, set, length, Result, Ok, Err}
use Rattle.rule.specs.declared.Refusal.{Refusal}
use Rattle.card_records.specs.Bytes.{kind_fits}
use Rattle.card_wiring.specs.Layout.{kinds_of, types_of, counts_of, places_of}
use Rattle.card_records.specs.declared.Parsed.{Parsed}
use Rattle.card_records.specs.Scan.{Meaning, Means, Stops}

-- the head of a net's record, not of the end, with its body inside bytes, of which there are fewer than 2 ^ 63
pub record NetHead (kind len body : ℕ) : Type 0 where
  pub fits : kind_fits kind len ≡ true
  pub no_end : ¬ (kind ≡ 4)
  pub inside : body + len < 2 ^ 63

-- f 0, f 1, .. stored from place a on, j of them
abbrev pub laid : List ℕ → ℕ → (ℕ → ℕ) → ℕ → List ℕ
laid xs a f zero = xs
laid xs a f (suc j) = set (laid xs a f j) (a + j) (f j)

-- the same laid out in arrays
abbrev pub parsed_of : Meaning → Result Parsed Refusal
parsed_of (Stops r) = Err r
parsed_of (Means c) = Ok (record { nets = length c; kinds = kinds_of c; types = types_of c; counts = counts_of c; places = places_of c })
