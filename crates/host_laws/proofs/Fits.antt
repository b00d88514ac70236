-- The rooms of the two vectors hold so many bytes, and 0 past them, in the bytes that a call leaves. Assumes nothing.
use mathlib.Core.Path.{◌≡◌, ◌∙◌}
use mathlib.Core.Bool.{true}
use mathlib.Core.List.{List}
use Prim.Native.Nat.{ℕ, ◌+◌, ◌≤◌, ◌<◌}
use native.Mathlib.Omega.{arith}
use lib.ListN.{length, get_or}
use Rattle.lists.specs.Places.{clear}
use Rattle.lists.proofs.Bools.{and_both, and_make}
use Rattle.lists.proofs.Places.{clear_at, clear_make, clear_from}
use Rattle.host_bytes.specs.Layout.{older_at, last_at, card_at, session_length}
use Rattle.host_bytes.specs.Kept.{kept_card}
use Rattle.host_bytes.proofs.Rooms.{card_none, rooms, rooms_older, rooms_last}
use Rattle.host_made.specs.Made.{fitting}

-- both are empty where a card was just loaded
pub card_fitting : (b v : List ℕ) → session_length ≤ length b → fitting (kept_card b v) 0 0 ≡ true
card_fitting b v long =
    and_make _ _
    (clear_make (kept_card b v) older_at last_at (λ i l u. card_none b v long i l (omega arith)))
    (clear_make (kept_card b v) last_at card_at (λ i l u. card_none b v long i (omega arith) u))

-- and hold what was put there after a rest or a vector
pub rooms_fit : (b : List ℕ) (k : ℕ) (o v : List ℕ) → session_length ≤ length b → (m n : ℕ)
    → ((i : ℕ) → m ≤ i → i < 256 → get_or o i 0 ≡ 0) → ((i : ℕ) → n ≤ i → i < 256 → get_or v i 0 ≡ 0) → fitting (rooms b k o v) m n ≡ true
rooms_fit b k o v long m n p q =
    and_make _ _
    (clear_from (rooms b k o v) older_at m last_at (λ i l u. rooms_older b k o v long i (omega arith) ∙ p i l (omega arith)))
    (clear_from (rooms b k o v) last_at n card_at (λ i l u. rooms_last b k o v long i (omega arith) ∙ q i l (omega arith)))

-- the rooms hold so many bytes, and 0 past them
pub fitting_none : (b : List ℕ) (m n : ℕ) → fitting b m n ≡ true
    → ((i : ℕ) → m ≤ i → i < 256 → get_or b (older_at + i) 0 ≡ 0) × ((i : ℕ) → n ≤ i → i < 256 → get_or b (last_at + i) 0 ≡ 0)
fitting_none b m n f =
    let both = and_both (clear b (older_at + m) last_at) (clear b (last_at + n) card_at) f in (
      λ i l u. clear_at b (older_at + m) last_at both.0 (older_at + i) (omega arith) (omega arith),
      λ i l u. clear_at b (last_at + n) card_at both.1 (last_at + i) (omega arith) (omega arith),
    )
