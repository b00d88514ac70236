-- What lent bytes hold after an operation that was done. Assumes nothing.
use Rattle.std.specs.Prelude.{List, [], ◌∷◌, ℕ, ◌+◌, ◌/◌, ◌%◌, length, get_or}
use Rattle.lists.specs.Listed.{listed}
use Rattle.lists.specs.Places.{area}
use Rattle.operations.specs.declared.Engine.{Engine}
use Rattle.operations.specs.declared.Engine.TheVariants.{Fields, Steps}
use Rattle.operations.specs.declared.Move.{Move}
use Rattle.operations.specs.declared.Move.TheVariants.{Load, Rest, Vector}
use Rattle.host_bytes.specs.Layout.{older_at, last_at, card_at, card_to}

-- the room of the last vector
unfoldable pub last_room : List ℕ → List ℕ
last_room b = listed (λ i. get_or b (last_at + i) 0) 256

-- what is kept of a session that was just loaded, rested, or moved by a vector
unfoldable pub kept_card : List ℕ → List ℕ → List ℕ
kept_card b card = area (area (area b 0 older_at (1 ∷ length card % 256 ∷ length card / 256 % 256 ∷ [])) older_at card_at (0 ∷ [])) card_at card_to card

unfoldable pub kept_rest : List ℕ → List ℕ → List ℕ
kept_rest b v = area (area (area b 0 1 (2 ∷ [])) older_at last_at (0 ∷ [])) last_at card_at v

-- byte 0 of a session that a vector moved says by which engine
abbrev pub mark_of : Engine → ℕ
mark_of Fields = 3
mark_of Steps = 4

unfoldable pub kept_vector : Engine → List ℕ → List ℕ → List ℕ
kept_vector engine b v = area (area (area b 0 1 (mark_of engine ∷ [])) older_at last_at (last_room b)) last_at card_at v

-- what each operation leaves, given its bytes
abbrev pub kept_by : Move → List ℕ → List ℕ → List ℕ
kept_by Load b given = kept_card b given
kept_by Rest b given = kept_rest b given
kept_by (Vector engine) b given = kept_vector engine b given
