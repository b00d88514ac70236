-- The session: the empty one, and that of a card just loaded. Assumes nothing.
use Rattle.std.specs.Prelude.{Bool, true, false, List, ℕ, length, get_or, replicate}
use Rattle.word.specs.Times.{count}
use Rattle.rule.specs.Net.{Net, net_at, is_input}
use Rattle.rule.specs.Steps.{gate_order}
use Rattle.card_wiring.specs.Layout.{kinds_of, types_of, counts_of, places_of, card_in, padded}
use Rattle.card_wiring.specs.Wired.{set_words}
use Rattle.inputs.specs.Inputs.{input_nets}
use Rattle.card.specs.declared.Session.{Session}

-- "A session is one that these operations left, starting from an empty one."
unfoldable pub none : Session
none = record {
  loaded = false;
  rested = false;
  nets = 0;
  inputs = 0;
  gates = 0;
  kinds = replicate 256 0;
  types = replicate 256 0;
  counts = replicate 256 0;
  places = replicate 2048 0;
  order = replicate 256 0;
  feeds = replicate 256 0;
  sets = replicate 256 0;
  before = replicate 256 false;
  words = replicate 256 0;
}

-- how many inputs a card has
unfoldable pub inputs_of : List Net → ℕ
inputs_of c = count (λ n. is_input (net_at c n)) (length c)

-- "A loaded card replaces the old one and is not yet rested"; "All 256 fields start cleared when a card is loaded."
unfoldable pub session_of : List Net → Session
session_of c = record {
  loaded = true;
  rested = false;
  nets = length c;
  inputs = inputs_of c;
  gates = length (gate_order c);
  kinds = kinds_of c;
  types = types_of c;
  counts = counts_of c;
  places = places_of c;
  order = padded (gate_order c);
  feeds = input_nets (kinds_of c) 256;
  sets = set_words c;
  before = replicate 256 false;
  words = replicate 256 0;
}

-- the card that a session holds
unfoldable pub card_of : Session → List Net
card_of s = card_in s.kinds s.types s.counts s.places s.nets

-- the word of net n in its last history, and its value ahead of that word's time 0
abbrev pub word_at : Session → ℕ → ℕ
word_at s n = get_or s.words n 0

abbrev pub before_at : Session → ℕ → Bool
before_at s n = get_or s.before n false

-- a session with the same card, at another rest
abbrev pub resting : Session → Bool → List Bool → List ℕ → Session
resting s rested before words = record {
  loaded = s.loaded;
  rested = rested;
  nets = s.nets;
  inputs = s.inputs;
  gates = s.gates;
  kinds = s.kinds;
  types = s.types;
  counts = s.counts;
  places = s.places;
  order = s.order;
  feeds = s.feeds;
  sets = s.sets;
  before = before;
  words = words;
}
