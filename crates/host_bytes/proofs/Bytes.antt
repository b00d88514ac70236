-- Bytes stay bytes: in an area, in a part and in the room of the last vector. Assumes nothing.
use mathlib.Core.Path.{◌≡◌, refl}
use mathlib.Core.List.{List, [], ◌∷◌}
use Prim.Native.Nat.{ℕ, zero, suc, ◌+◌, ◌<◌}
use lib.Dec.{lit<}
use lib.ListN.{get_or}
use Rattle.lists.specs.Places.{part, area}
use Rattle.lists.proofs.Listed.{listed_at, listed_all}
use Rattle.lists.proofs.Places.{area_all, part_all}
use Rattle.card_records.specs.Written.{Bytes}
use Rattle.operations.specs.declared.Engine.{Engine}
use Rattle.operations.specs.declared.Engine.TheVariants.{Fields, Steps}
use Rattle.host_bytes.specs.Layout.{last_at}
use Rattle.host_bytes.specs.Kept.{last_room, mark_of}

pub area_bytes : (b : List ℕ) (at to : ℕ) (v : List ℕ) → Bytes b → Bytes v → Bytes (area b at to v)
area_bytes b at to v h k = area_all (λ x. x < 256) (lit< tt) b h at to v k

pub part_bytes : (b : List ℕ) → Bytes b → (at n : ℕ) → Bytes (part b at n)
part_bytes b h at n = part_all (λ x. x < 256) (lit< tt) b h at n

pub room_bytes : (b : List ℕ) → Bytes b → Bytes (last_room b)
unfolding last_room
room_bytes b h i = listed_all (λ x. x < 256) _ 256 i 0 (h (last_at + i)) (lit< tt)

pub room_at : (b : List ℕ) (i : ℕ) → i < 256 → get_or (last_room b) i 0 ≡ get_or b (last_at + i) 0
unfolding last_room
room_at b i l = listed_at _ 256 i 0 l

-- one byte
pub one_byte : (k : ℕ) → k < 256 → Bytes (k ∷ [])
one_byte k l zero = l
one_byte k l (suc i) = lit< tt

pub zero_byte : (i : ℕ) → get_or {A = ℕ} (0 ∷ []) i 0 ≡ 0
zero_byte zero = refl
zero_byte (suc i) = refl

pub mark_byte : (engine : Engine) → mark_of engine < 256
mark_byte Fields = lit< tt
mark_byte Steps = lit< tt
