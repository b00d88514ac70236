-- How many bytes a card takes: at most 21 a net, and 4 for its end. Assumes nothing.
use mathlib.Core.Path.{◌≡◌, refl}
use mathlib.Core.List.Memᴰ
use mathlib.Core.List.{List, [], ◌∷◌, ◌++◌}
use Prim.Native.Nat.{◌+◌, ◌*◌, ◌≤◌}
use native.Mathlib.Omega.{arith}
use lib.ListN.{length, length-append}
use Rattle.lists.specs.Entries.{each}
use Rattle.rule.specs.Net.{Net}
use Rattle.card_records.specs.Written.{net_bytes, end_bytes, card_bytes, Legal, AllLegal}
use Rattle.card_records.proofs.Heads.{kind_short}
use Rattle.card_records.proofs.Again.{net_kind}

net_size : (w : Net) → Legal w → length (net_bytes w) ≤ 21
unfolding net_bytes
net_size w l = omega (arith, kind_short (net_kind w l))

nets_size : (c : List Net) → AllLegal c → length (each net_bytes c) ≤ 21 * length c
nets_size [] l = omega arith
nets_size (w ∷ c) l =
    let e = length-append (net_bytes w) (each net_bytes c) in
    let here = net_size w (l w (Memᴰ.head refl)) in
    let rest = nets_size c (λ x m. l x (Memᴰ.tail m)) in
    omega arith

pub card_long : (c : List Net) → AllLegal c → length (card_bytes c) ≤ 21 * length c + 4
unfolding card_bytes
card_long c l =
    let e : length (each net_bytes c ++ end_bytes) ≡ length (each net_bytes c) + 4 = length-append (each net_bytes c) end_bytes in
    omega (arith, nets_size c l)
