-- The step list as it is found ahead of the lent room: the answer, and the records to write. No function goes by it; what stands in two arrays is still this.
-- Assumes nothing.
use mathlib.Core.Path.{◌≡◌, refl, sym, ap, ◌∙◌}
use mathlib.Core.Bool.{Bool, true, false, cond}
use mathlib.Core.List.{List}
use Prim.Native.Nat.{ℕ, ◌≤◌, ◌<◌}
use native.Mathlib.Omega.{arith}
use lib.Dec.{leb}
use lib.ListN.{length, replicate}
use borrow.Author.Tests.{le-leb, lt-leb}
use Rattle.std.specs.Prelude.{Ok, Err}
use Rattle.lists.proofs.Rooms.{fills_same}
use Rattle.rule.specs.Answers.{Answer}
use Rattle.rule.specs.Steps.{Step, step_list, step_at}
use Rattle.rule.specs.declared.Refusal.{Refusal}
use Rattle.rule.specs.declared.Refusal.TheVariants.{NotReady, NoRoom}
use Rattle.card.specs.declared.Session.{Session}
use Rattle.card.specs.Session.{card_of}
use Rattle.step_list.specs.Inner.Listing.{Holds}
use Rattle.step_list.proofs.Lists.{held_net, held_time}
use Rattle.step_records.specs.declared.StepRecord.{StepRecord}
use Rattle.step_records.specs.Records.{blank_record, step_record, records_in, records_put}
use Rattle.step_records.specs.Inner.Records.{record_in}

pub record Listing : Type 0 where
  pub answer : Answer
  pub total : ℕ
  pub records : List StepRecord

abbrev pub refused_listing : Refusal → Listing
refused_listing why = record { answer = Err why; total = 0; records = replicate 4096 blank_record }

unfoldable pub listing_of : Session → ℕ → Listing
listing_of s room =
    let n = length (step_list (card_of s)) in
    cond s.loaded
    (cond (leb n room) (record { answer = Ok n; total = n; records = records_put s (replicate 4096 blank_record) }) (refused_listing NoRoom))
    (refused_listing NotReady)

module _ (s : Session) (room : ℕ) where
  abbrev ks : List Step
  ks = step_list (card_of s)

  abbrev full : Listing
  full = record { answer = Ok (length ks); total = length ks; records = records_put s (replicate 4096 blank_record) }

  abbrev found : Bool → Bool → Listing
  found a b = cond a (cond b full (refused_listing NoRoom)) (refused_listing NotReady)

  found_is : (a b : Bool) → s.loaded ≡ a → leb (length ks) room ≡ b → listing_of s room ≡ found a b
  unfolding listing_of
  found_is a b ea eb = ap (λ x. found x (leb (length ks) room)) ea ∙ ap (found a) eb

  pub listing_none : s.loaded ≡ false → listing_of s room ≡ refused_listing NotReady
  listing_none e = found_is false _ e refl

  pub listing_short : s.loaded ≡ true → room < length ks → listing_of s room ≡ refused_listing NoRoom
  listing_short e l = found_is true false e (lt-leb (length ks) room l)

  pub listing_full : s.loaded ≡ true → length ks ≤ room → listing_of s room ≡ full
  listing_full e l = found_is true true e (le-leb (length ks) room l)

  -- the list stands in two arrays, whose first entries are made records
  pub listing_made : {nets₀ times₀ nets times : List ℕ} {total : ℕ} → Holds ks nets₀ times₀ nets times total → length nets₀ ≡ 4096
      → length times₀ ≡ 4096 → total ≤ 4096 → s.loaded ≡ true → total ≤ room → (records : List StepRecord)
      → records ≡ records_in (record_in nets times) total (replicate 4096 blank_record)
      → record { answer = Ok total; total = total; records = records } ≡ listing_of s room
  listing_made {nets₀} {times₀} {nets} {times} {total} h ln lt few loaded fits records e =
      let at : (e : ℕ) → e < total → e < length ks = λ e b. omega (arith, h.size) in
      ap (λ x. record { answer = Ok total; total = total; records = x })
      (e ∙ fills_same blank_record (record_in nets times) (λ e. step_record (step_at ks e)) total (replicate 4096 blank_record)
      (λ e b i. record { net = held_net h ln lt few e (at e b) i; time = held_time h ln lt few e (at e b) i }))
      ∙ ap (λ n. record { answer = Ok n; total = n; records = records_in (λ e. step_record (step_at ks e)) n (replicate 4096 blank_record) }) h.size
      ∙ sym (listing_full loaded (omega (arith, h.size)))
