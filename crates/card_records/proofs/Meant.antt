-- A net's record that was read: its fields are the kind, the type and the pins of the net that it means, and its pins are inside the bytes.
-- Assumes nothing.
use mathlib.Core.Path.{◌≡◌, refl, sym, subst}
use mathlib.Core.Bool.{true}
use mathlib.Core.List.{List}
use Prim.Native.Nat.{ℕ, ◌+◌, ◌*◌, ◌≤◌, ◌<◌}
use native.Mathlib.Omega.{arith}
use lib.ListN.{length}
use borrow.Author.Tests.{ltb-true}
use Rattle.lists.specs.Listed.{listed}
use Rattle.lists.proofs.Listed.{listed_none}
use Rattle.word.proofs.Bits.{val_is_one}
use Rattle.rule.specs.Net.{pins_of}
use Rattle.card_wiring.specs.Layout.{kind_of, type_of}
use Rattle.std.specs.Prelude.{Ok}
use Rattle.card_records.specs.declared.NetRecord.{NetRecord}
use Rattle.card_records.specs.declared.Record.TheVariants.{Net as Netted}
use Rattle.card_records.specs.Bytes.{u16_at, body_fits, net_record, record_read}
use Rattle.card_records.specs.Scan.{net_meant}
use Rattle.card_records.proofs.Heads.{KindIs, of_input, of_constant, of_gate, of_end, kind_is}
use Rattle.card_records.proofs.Found.{Whole, FoundAt, net, found_at}

pub record Meant (s : List ℕ) (r : NetRecord) : Type 0 where
  pub kind_of_lem : kind_of (net_meant s r) ≡ r.kind
  pub type_of_lem : type_of (net_meant s r) ≡ r.ty
  pub pins_of_lem : pins_of (net_meant s r) ≡ listed (λ j. u16_at s (r.start + 2 * j)) r.count
  pub narrow : r.count ≤ 8
  pub inside : 0 < r.count → r.start + 2 * r.count ≤ length s

meant_whole : (s : List ℕ) (at kind len first : ℕ) → Whole (length s) at kind len first → ¬ (kind ≡ 4) → Meant s (net_record kind len (at + 4) first)
unfolding net_record net_meant body_fits
meant_whole s at kind len first w no_end = go (kind_is kind len w.head) w.body
  where
    go : KindIs kind len → body_fits kind len first ≡ true → Meant s (net_record kind len (at + 4) first)
    go (of_input e l) b = rw (e, l) record { kind_of_lem = refl; type_of_lem = refl; pins_of_lem = sym (listed_none _); narrow = omega arith; inside = omega arith }
    go (of_constant e l) b =
        rw (e, l) record { kind_of_lem = refl; type_of_lem = val_is_one first (ltb-true first 2 (rw e at b)); pins_of_lem = sym (listed_none _); narrow = omega arith; inside = omega arith }
    go (of_gate e low high o) b =
        rw e record { kind_of_lem = refl; type_of_lem = refl; pins_of_lem = refl; narrow = omega arith; inside = omega (arith, w.inside) }
    go (of_end e l) b = absurd (no_end e)

pub meant : (s : List ℕ) (at : ℕ) (r : NetRecord) → record_read s at ≡ Ok (Netted r) → Meant s r
meant s at r e = go r (subst (FoundAt s at) e (found_at s at))
  where
    go : (r : NetRecord) → FoundAt s at (Ok (Netted r)) → Meant s r
    go r (net w no_end) = meant_whole s at _ _ _ w no_end
