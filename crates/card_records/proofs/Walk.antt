-- The walk over the records: what the arrays and the place stand for after some nets, and that each record ends it or keeps it. Assumes nothing.
use mathlib.Core.Path.{◌≡◌, refl, sym, ap, ◌∙◌}
use mathlib.Core.List.{List, [], ◌∷◌, ◌++◌}
use Prim.Native.Nat.{ℕ, suc, ◌+◌, ◌-◌, ◌*◌, ◌/◌, ◌%◌, ◌≤◌, ◌<◌}
use native.Mathlib.Omega.{arith}
use lib.ListN.{length, get_or, set, replicate, length-append}
use borrow.Author.Tests.{le-ltb}
use Rattle.lists.specs.Listed.{listed}
use Rattle.lists.proofs.Listed.{listed_same, listed_ext}
use Rattle.rule.specs.Net.{Net, net_at, pins}
use Rattle.rule.specs.declared.Refusal.{Refusal}
use Rattle.rule.specs.declared.Refusal.TheVariants.{TooManyNets, BytesAfter}
use Rattle.rule.proofs.Nets.{past_source, source_pins}
use Rattle.card_wiring.specs.Layout.{kinds_of, types_of, counts_of, places_of}
use Rattle.std.specs.Prelude.{Result, Ok, Err}
use Rattle.card_records.specs.declared.Fault.{Fault}
use Rattle.card_records.specs.declared.NetRecord.{NetRecord}
use Rattle.card_records.specs.declared.Record.TheVariants.{End, Net as Netted}
use Rattle.card_records.specs.declared.Parsed.{Parsed}
use Rattle.card_records.specs.Bytes.{u16_at, record_read}
use Rattle.card_records.specs.Inner.Reading.{laid, parsed_of}
use Rattle.card_records.specs.Scan.{Stops, Means, fault_of, net_meant, scan, meaning}
use Rattle.card_records.proofs.Meant.{Meant, meant}
use Rattle.card_records.proofs.Scans.{scan_bad, scan_end, scan_after, scan_full, scan_net}
use Rattle.card_records.proofs.Pushed.{push_kinds, push_types, push_counts, push_places}

-- the arrays are those of the n nets so far, and what the bytes mean is found by reading on from the place
pub record Walk (s kinds types counts places : List ℕ) (n at : ℕ) : Type 0 where
  pub card : List Net
  pub size : length card ≡ n
  pub room : n ≤ 256
  pub kinds_are : kinds ≡ kinds_of card
  pub types_are : types ≡ types_of card
  pub counts_are : counts ≡ counts_of card
  pub places_are : places ≡ places_of card
  pub rest : meaning s ≡ scan (256 - n) s at card

-- nothing read yet
none : (f : ℕ → ℕ) (k : ℕ) → ((i : ℕ) → i < k → f i ≡ 0) → replicate k 0 ≡ listed f k
none f k h = listed_same 0 k ∙ listed_ext (λ i. 0) f k (λ i b. sym (h i b))

no_pins : (i : ℕ) → pins [] i ≡ []
no_pins i = source_pins (net_at [] i) (past_source [] i (omega arith))

pub begin : (s : List ℕ) → Walk s (replicate 256 0) (replicate 256 0) (replicate 256 0) (replicate 2048 0) 0 0
unfolding kinds_of types_of counts_of places_of
begin s = record {
  card = [];
  size = refl;
  room = omega arith;
  kinds_are = none _ 256 (λ i b. rw (le-ltb i 0 (omega arith)));
  types_are = none _ 256 (λ i b. rw (le-ltb i 0 (omega arith)));
  counts_are = none _ 256 (λ i b. ap length (no_pins i));
  places_are = none _ 2048 (λ i b. ap (λ ps. get_or ps (i % 8) 0) (no_pins (i / 8)));
  rest = refl;
}

module _ {s kinds types counts places : List ℕ} {n at : ℕ} (k : Walk s kinds types counts places n at) where
  -- it ends
  pub bad : (f : Fault) → record_read s at ≡ Err f → meaning s ≡ Stops (fault_of f)
  bad f e = k.rest ∙ scan_bad s at k.card (256 - n) f e

  pub after : (next : ℕ) → record_read s at ≡ Ok (End next) → ¬ (next ≡ length s) → meaning s ≡ Stops BytesAfter
  after next e q = k.rest ∙ scan_after s at k.card (256 - n) next e q

  pub full : (r : NetRecord) → record_read s at ≡ Ok (Netted r) → n ≡ 256 → meaning s ≡ Stops TooManyNets
  full r e q = k.rest ∙ let no_room : 256 - n ≡ 0 = omega arith in rw no_room (scan_full s at k.card r e)

  pub done : (next : ℕ) → record_read s at ≡ Ok (End next) → next ≡ length s
      → ◌≡◌ {A = Result Parsed Refusal} (Ok (record { nets = n; kinds = kinds; types = types; counts = counts; places = places })) (parsed_of (meaning s))
  done next e q =
      let m : meaning s ≡ Means k.card = k.rest ∙ scan_end s at k.card (256 - n) next e q in
      rw (m, k.kinds_are, k.types_are, k.counts_are, k.places_are, ← k.size)

  -- or goes on
  pub more : (r : NetRecord) → record_read s at ≡ Ok (Netted r) → n < 256
      → Walk s (set kinds n r.kind) (set types n r.ty) (set counts n r.count) (laid places (n * 8) (λ j. u16_at s (r.start + 2 * j)) r.count) (n + 1) r.next
  more r e l =
      let w : Net = net_meant s r in
      let known : Meant s r = meant s at r e in
      let few : length k.card < 256 = omega (arith, k.size) in
      let left : 256 - n ≡ suc (256 - (n + 1)) = omega arith in
      record {
        card = k.card ++ (w ∷ []);
        size = omega (arith, length-append k.card (w ∷ []), k.size);
        room = omega arith;
        kinds_are = rw (k.kinds_are, ← k.size) (push_kinds k.card w few r.kind known.kind_of_lem);
        types_are = rw (k.types_are, ← k.size) (push_types k.card w few r.ty known.type_of_lem);
        counts_are = rw (k.counts_are, ← k.size) (push_counts k.card w few _ r.count known.pins_of_lem);
        places_are = rw (k.places_are, ← k.size) (push_places k.card w few _ r.count known.narrow known.pins_of_lem);
        rest = k.rest ∙ rw left (scan_net s at k.card (256 - (n + 1)) r e);
      }
