-- What the step list as records answers: 12 without a card, 18 where the room is too small, else the records. Assumes nothing.
use mathlib.Core.Path.{◌≡◌, refl, sym, ap, ◌∙◌, subst}
use mathlib.Core.Bool.{Bool, true, false, cond}
use mathlib.Core.List.{List}
use mathlib.Core.Logic.{◌⊎◌, inl, inr}
use Prim.Native.Nat.{ℕ, ◌≤◌, ◌<◌}
use native.Mathlib.Omega.{arith}
use lib.Dec.{leb}
use lib.ListN.{length, get_or}
use borrow.Author.Tests.{leb-true, leb-false, le-leb, lt-leb}
use Rattle.lists.proofs.Rooms.{fills_same, fills_at, fills_past}
use Rattle.rule.specs.Steps.{Step, step_list, step_at}
use Rattle.rule.specs.declared.Refusal.{Refusal}
use Rattle.rule.specs.declared.Refusal.TheVariants.{NotReady, NoRoom}
use Rattle.std.specs.Prelude.{Ok, Err}
use Rattle.card.specs.declared.Session.{Session}
use Rattle.card.specs.Session.{card_of}
use Rattle.step_list.specs.Listing.{list_of}
use Rattle.step_list.specs.Inner.Listing.{Holds}
use Rattle.step_list.proofs.Lists.{held_net, held_time}
use Rattle.step_list.proofs.Answers.{list_12, list_18, list_0}
use Rattle.step_records.specs.declared.StepRecord.{StepRecord}
use Rattle.step_records.specs.Records.{blank_record, step_record, records_in, records_put, Answered, records_of}
use Rattle.step_records.specs.Inner.Records.{record_in}

-- What goes to the lent room

module _ (s : Session) (room : List StepRecord) where
  abbrev all : List Step
  all = step_list (card_of s)

  -- refused: the room keeps what it had
  abbrev kept : Refusal → Answered
  kept why = record { answer = Err why; room = room }

  abbrev tested : Bool → Bool → Answered
  tested a b = cond a (cond b (record { answer = Ok (length all); room = records_put s room }) (kept NoRoom)) (kept NotReady)

  tested_is : (a b : Bool) → s.loaded ≡ a → leb (length all) (length room) ≡ b → records_of s room ≡ tested a b
  unfolding records_of
  tested_is a b ea eb = ap (λ x. tested x (leb (length all) (length room))) ea ∙ ap (tested a) eb

  -- 12 where no card is loaded: the lent room keeps what it had,
  pub records_12 : s.loaded ≡ false → records_of s room ≡ record { answer = Err NotReady; room = room }
  records_12 e = tested_is false _ e refl

  -- 18 where one is and the room is too small: it keeps it too,
  pub records_18 : s.loaded ≡ true → length room < length all → records_of s room ≡ record { answer = Err NoRoom; room = room }
  records_18 e l = tested_is true false e (lt-leb (length all) (length room) l)

  -- 0 else, with the list's length
  pub records_0 : s.loaded ≡ true → length all ≤ length room → records_of s room ≡ record { answer = Ok (length all); room = records_put s room }
  records_0 e l = tested_is true true e (le-leb (length all) (length room) l)

  -- and each answer is given for that alone
  pub data Ruling : Answered → Type 0 where
    says_12 : s.loaded ≡ false → Ruling (record { answer = Err NotReady; room = room })
    says_18 : s.loaded ≡ true → length room < length all → Ruling (record { answer = Err NoRoom; room = room })
    says_0 : s.loaded ≡ true → length all ≤ length room → Ruling (record { answer = Ok (length all); room = records_put s room })

  pub records_ruled : Ruling (records_of s room)
  records_ruled = go s.loaded (leb (length all) (length room)) refl refl
    where
      go : (a b : Bool) → s.loaded ≡ a → leb (length all) (length room) ≡ b → Ruling (records_of s room)
      go false b ea eb = subst Ruling (sym (records_12 ea)) (says_12 ea)
      go true false ea eb = let l = leb-false _ _ eb in subst Ruling (sym (records_18 ea l)) (says_18 ea l)
      go true true ea eb = let l = leb-true _ _ eb in subst Ruling (sym (records_0 ea l)) (says_0 ea l)

  abbrev pub Reason : Refusal → Type 0
  Reason why = ((why ≡ NotReady) × (s.loaded ≡ false)) ⊎ ((why ≡ NoRoom) × (s.loaded ≡ true) × (length room < length all))

  pub records_refused : (why : Refusal) → (records_of s room).answer ≡ Err why → ((records_of s room).room ≡ room) × Reason why
  records_refused why e = go (records_of s room) records_ruled e
    where
      go : (r : Answered) → Ruling r → r.answer ≡ Err why → (r.room ≡ room) × Reason why
      go r (says_12 l) q = (refl, inl ((cc), l))
      go r (says_18 l m) q = (refl, inr ((cc), l, m))
      go r (says_0 l m) q = let z : ◌≡◌ {A = ℕ} 0 1 = cc in absurd (omega arith)

  -- the list stands in two arrays, and the records of its first entries go to the room's front
  pub records_made : {nets₀ times₀ nets times : List ℕ} {total : ℕ} → Holds all nets₀ times₀ nets times total → length nets₀ ≡ 4096 → length times₀ ≡ 4096
      → total ≤ 4096 → s.loaded ≡ true → total ≤ length room → (records : List StepRecord) → records ≡ records_in (record_in nets times) total room
      → record { answer = Ok total; room = records } ≡ records_of s room
  records_made {nets₀} {times₀} {nets} {times} {total} h ln lt few loaded fits records e =
      let at : (e : ℕ) → e < total → e < length all = λ e b. omega (arith, h.size) in
      ap (λ x. record { answer = Ok total; room = x })
      (e ∙ fills_same blank_record (record_in nets times) (λ e. step_record (step_at all e)) total room
      (λ e b i. record { net = held_net h ln lt few e (at e b) i; time = held_time h ln lt few e (at e b) i }))
      ∙ ap (λ n. record { answer = Ok n; room = records_in (λ e. step_record (step_at all e)) n room }) h.size
      ∙ sym (records_0 loaded (omega (arith, h.size)))

  -- What stands in the lent room

  module _ (loaded : s.loaded ≡ true) (fits : length all ≤ length room) where
    -- entry e is step e,
    pub records_step : (e : ℕ) → e < length all → get_or (records_of s room).room e blank_record ≡ step_record (step_at all e)
    records_step e l =
        ap (λ r. get_or r.room e blank_record) (records_0 loaded fits) ∙ fills_at blank_record (λ e. step_record (step_at all e)) (length all) e room fits l

    -- and the entries past the list are kept
    pub records_keep : (e : ℕ) → length all ≤ e → get_or (records_of s room).room e blank_record ≡ get_or room e blank_record
    records_keep e l =
        ap (λ r. get_or r.room e blank_record) (records_0 loaded fits) ∙ fills_past blank_record (λ e. step_record (step_at all e)) (length all) e room l

-- The two forms of the list agree: in room as long they answer the same, and name the same steps

module _ (s : Session) (room : List StepRecord) (nets times : List ℕ) (ln : length nets ≡ length room) (lt : length times ≡ length room) where
  abbrev steps : List Step
  steps = step_list (card_of s)

  pub forms_answer : (records_of s room).answer ≡ (list_of s nets times).answer
  forms_answer = go (records_of s room) (records_ruled s room)
    where
      go : (r : Answered) → Ruling s room r → r.answer ≡ (list_of s nets times).answer
      go r (says_12 e) = sym (ap (λ x. x.answer) (list_12 s nets times e))
      go r (says_18 e l) = sym (ap (λ x. x.answer) (list_18 s nets times e (inl (omega arith))))
      go r (says_0 e l) = sym (ap (λ x. x.answer) (list_0 s nets times e (omega arith) (omega arith)))

  module _ (loaded : s.loaded ≡ true) (fits : length steps ≤ length room) (e : ℕ) (l : e < length steps) where
    pub forms_net : (get_or (records_of s room).room e blank_record).net ≡ get_or (list_of s nets times).nets e 0
    forms_net =
        ap (λ r. r.net) (records_step s room loaded fits e l)
        ∙ sym (ap (λ r. get_or r.nets e 0) (list_0 s nets times loaded (omega arith) (omega arith))
        ∙ fills_at 0 (λ e. (step_at steps e).net) (length steps) e nets (omega arith) l)

    pub forms_time : (get_or (records_of s room).room e blank_record).time ≡ get_or (list_of s nets times).times e 0
    forms_time =
        ap (λ r. r.time) (records_step s room loaded fits e l)
        ∙ sym (ap (λ r. get_or r.times e 0) (list_0 s nets times loaded (omega arith) (omega arith))
        ∙ fills_at 0 (λ e. (step_at steps e).time) (length steps) e times (omega arith) l)
