-- Inner: cited by contracts between functions alone, and by laws. Bit-fields: a gate's field of its pins' words, and a pass along an order of the
-- gates. What a pass leaves are the rule's histories: `pass_histories` (session/proofs/Histories.antt). Assumes nothing.
use Rattle.std.specs.Prelude.{Bool, false, List, map, ℕ, eqb, length, get_or}
use Rattle.lists.specs.Listed.{listed}
use Rattle.word.specs.Word.{bit, word_of, moved_up}
use Rattle.gate.specs.Gate.{gate as gate_fn}
use Rattle.rule.specs.Net.{open_value, at_pin}
use Rattle.rule.specs.Run.{run}
use Rattle.card_wiring.specs.Layout.{pins_at}
use Rattle.inputs.specs.Inner.Starts.{tops_of, byte_word, nets_put}

-- "A gate's word is the function of its pins' words, moved up by one, with the before value in bit 0."
unfoldable pub field_of : Bool → ℕ → List ℕ → ℕ
field_of before ty ws = word_of 64 (moved_up before (λ t. gate_fn ty (map (λ w. bit w t) ws)))

abbrev pub field_at : List Bool → List ℕ → ℕ → List ℕ → ℕ
field_at before types g ws = field_of (get_or before g false) (get_or types g 0) ws

-- the word that a pin reads: an open one has its value at every time
abbrev pub pin_word : List ℕ → ℕ → ℕ
pin_word words p = at_pin (word_of 64 (λ t. open_value)) (λ m. get_or words m 0) p

-- what a pass along an order of the gates leaves
unfoldable pub passed : List Bool → List ℕ → List ℕ → List ℕ → List ℕ → List ℕ → List ℕ
passed before types counts places words order = listed (run eqb (pins_at counts places) (field_at before types) (pin_word words) order) 256

-- the words that a vector leaves of the last one's: those of the nets that are inputs are put, and the gates' follow along their order
abbrev pub advanced : List ℕ → List ℕ → List ℕ → List ℕ → List ℕ → List ℕ → List ℕ → List ℕ
advanced nets types counts places order words v =
    let put = nets_put nets (byte_word v) (length v) words in
    passed (tops_of put) types counts places put order
