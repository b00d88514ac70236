-- What one record makes of a scan: it ends it, or the scan goes on after it. Assumes nothing.
use mathlib.Core.Path.{◌≡◌, refl, ap, ◌∙◌}
use mathlib.Core.List.{List, [], ◌∷◌, ◌++◌}
use Prim.Native.Nat.{ℕ, zero, suc}
use lib.ListN.{length}
use borrow.Author.Tests.{eq-eqb, ne_eqb}
use Rattle.rule.specs.Net.{Net}
use Rattle.rule.specs.declared.Refusal.TheVariants.{TooManyNets, BytesAfter}
use Rattle.std.specs.Prelude.{Result, Ok, Err}
use Rattle.card_records.specs.declared.Fault.{Fault}
use Rattle.card_records.specs.declared.NetRecord.{NetRecord}
use Rattle.card_records.specs.declared.Record.{Record}
use Rattle.card_records.specs.declared.Record.TheVariants.{End, Net as Netted}
use Rattle.card_records.specs.Bytes.{record_read}
use Rattle.card_records.specs.Scan.{Meaning, Stops, Means, fault_of, net_meant, one, scan}

module _ (s : List ℕ) (at : ℕ) (c : List Net) where
  scan_one : (room : ℕ) (r : Result Record Fault) (m : Meaning) → record_read s at ≡ r → ((more : Net → ℕ → Meaning) → one s r c more ≡ m) → scan room s at c ≡ m
  unfolding scan
  scan_one zero r m e h = ap (λ q. one s q c (λ w next. Stops TooManyNets)) e ∙ h _
  scan_one (suc room) r m e h = ap (λ q. one s q c (λ w next. scan room s next (c ++ (w ∷ [])))) e ∙ h _

  pub scan_bad : (room : ℕ) (f : Fault) → record_read s at ≡ Err f → scan room s at c ≡ Stops (fault_of f)
  scan_bad room f e = scan_one room (Err f) (Stops (fault_of f)) e (λ more. refl)

  pub scan_end : (room next : ℕ) → record_read s at ≡ Ok (End next) → next ≡ length s → scan room s at c ≡ Means c
  scan_end room next e q = scan_one room (Ok (End next)) (Means c) e (λ more. rw (eq-eqb next (length s) q))

  pub scan_after : (room next : ℕ) → record_read s at ≡ Ok (End next) → ¬ (next ≡ length s) → scan room s at c ≡ Stops BytesAfter
  scan_after room next e q = scan_one room (Ok (End next)) (Stops BytesAfter) e (λ more. rw (ne_eqb next (length s) q))

  pub scan_full : (r : NetRecord) → record_read s at ≡ Ok (Netted r) → scan 0 s at c ≡ Stops TooManyNets
  unfolding scan
  scan_full r e = ap (λ q. one s q c (λ w next. Stops TooManyNets)) e

  pub scan_net : (room : ℕ) (r : NetRecord) → record_read s at ≡ Ok (Netted r) → scan (suc room) s at c ≡ scan room s r.next (c ++ (net_meant s r ∷ []))
  unfolding scan
  scan_net room r e = ap (λ q. one s q c (λ w next. scan room s next (c ++ (w ∷ [])))) e
