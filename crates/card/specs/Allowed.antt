-- What document 01 allows, said without a procedure, and when it gives each number. Assumes nothing.
use Rattle.std.specs.Prelude.{◌≡◌, List, ℕ, ◌≤◌, ◌<◌, length}
use Rattle.lists.specs.Entries.{Number}
use Rattle.rule.specs.Net.{Net, input, net_at, Named}
use Rattle.rule.specs.Level.{level, Looped}
use Rattle.rule.specs.Steps.{Joined}
use Rattle.rule.specs.declared.Refusal.{Refusal}
use Rattle.rule.specs.declared.Refusal.TheVariants.{NoInput, NoSuchPin, Looped as LoopedCard, TooDeep, TooManySteps}
use Rattle.card_records.specs.Written.{card_bytes, AllLegal}
use Rattle.card_records.specs.Stopped.{Stopped}

-- "at least one of them an input"
abbrev pub Fed : List Net → Type 0
Fed c = (n : ℕ) × (n < length c) × (net_at c n ≡ input)

-- "a level over 63"
abbrev pub Deep : List Net → Type 0
Deep c = (n : ℕ) × (63 < level c n)

-- "over 4,096 steps": gate-and-time pairs that have a chain
abbrev pub Long : List Net → Type 0
Long c = (k : ℕ) × Number (Joined c) k × (4096 < k)

-- a card of at most 256 nets, each as its record in the table has it
pub record Legible (c : List Net) : Type 0 where
  pub legal : AllLegal c
  pub few : length c ≤ 256

-- "1 to 256 nets, at least one of them an input; gates of at most 8 pins; level at most 63; at most 4,096 steps"; every pin names a net or
-- is open; no gate reaches itself
pub record Accepted (c : List Net) : Type 0 where
  pub legible : Legible c
  pub fed : Fed c
  pub named : Named c
  pub free : ¬ Looped c
  pub shallow : ¬ Deep c
  pub short : ¬ Long c

-- bytes that are such a card's records, one after another, then one end record, and nothing after it
pub record Allowed (s : List ℕ) : Type 0 where
  pub card : List Net
  pub bytes : s ≡ card_bytes card
  pub accepted : Accepted card

-- the bytes of a card that may still be refused once its end record is read
pub record Writes (s : List ℕ) (c : List Net) : Type 0 where
  pub bytes : s ≡ card_bytes c
  pub legible : Legible c

-- when each number is given, in document 01's order: while reading 1, 2, 3, 8; then 9, 4, 5, 6, 7
pub data LoadGets (s : List ℕ) : Refusal → Type 0 where
  gets_stopped : {why : Refusal} → Stopped s why → LoadGets s why
  gets_9 : (c : List Net) → Writes s c → ¬ Fed c → LoadGets s NoInput
  gets_4 : (c : List Net) → Writes s c → Fed c → ¬ Named c → LoadGets s NoSuchPin
  gets_5 : (c : List Net) → Writes s c → Fed c → Named c → Looped c → LoadGets s LoopedCard
  gets_6 : (c : List Net) → Writes s c → Fed c → Named c → ¬ Looped c → Deep c → LoadGets s TooDeep
  gets_7 : (c : List Net) → Writes s c → Fed c → Named c → ¬ Looped c → ¬ Deep c → Long c → LoadGets s TooManySteps
