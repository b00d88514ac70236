-- The meaning of a gate: what it gives of its pins' values, by its type. Assumes nothing.
-- "Gate types: 0 BUF, 1 NOT (one pin each); 2 AND, 3 NAND, 4 OR, 5 NOR, 6 XOR, 7 XNOR (2 to 8 pins each)."
use Rattle.std.specs.Prelude.{Bool, true, false, not, cond, List, [], ◌∷◌, ℕ, ltb, get_or}
use Rattle.std.specs.Bool.{beq}
use Rattle.lists.specs.Entries.{some}
use Rattle.word.specs.Word.{differ}

-- "Source document 002 gives each of the four primitive types a controlling value and an inversion: AND 0 0, OR 1 0, NAND 0 1,
-- NOR 1 1. These stand as a table." Its index is the gate type. BUF and NOT have AND's and NAND's rows; XOR and XNOR have
-- no controlling value, and nothing reads theirs; NOT and XNOR invert BUF and XOR.
unfoldable pub controls : ℕ → Bool
controls ty = get_or (false ∷ false ∷ false ∷ false ∷ true ∷ true ∷ false ∷ false ∷ []) ty false

unfoldable pub inverts : ℕ → Bool
inverts ty = get_or (false ∷ true ∷ false ∷ true ∷ false ∷ true ∷ false ∷ true ∷ []) ty false

-- a gate with the controlling value c and the inversion i: c where some pin has it, else the other value; inverted where i is 1
unfoldable pub controlled : Bool → Bool → List Bool → Bool
controlled c i ps = differ (cond (some (λ p. beq p c) ps) c (not c)) i

-- "XOR is 1 when an odd number of pins is 1"
abbrev pub odd : List Bool → Bool
odd [] = false
odd (p ∷ ps) = differ p (odd ps)

-- a gate's function of its pins' values: BUF and NOT of their one pin, the primitive types by the table, XOR and XNOR by oddness
unfoldable pub gate : ℕ → List Bool → Bool
gate ty ps =
    cond (ltb ty 2) (differ (get_or ps 0 false) (inverts ty))
    (cond (ltb ty 6) (controlled (controls ty) (inverts ty) ps)
    (differ (odd ps) (inverts ty)))
