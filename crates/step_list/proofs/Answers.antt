-- What the step list answers: 12 without a card, 18 where the room is too small, else the list. Assumes nothing.
use mathlib.Core.Path.{◌≡◌, refl, sym, ap, ◌∙◌, subst}
use mathlib.Core.Bool.{Bool, true, false, cond, ◌&&◌}
use mathlib.Core.List.{List}
use mathlib.Core.Logic.{◌⊎◌, inl, inr}
use Prim.Native.Nat.{ℕ, ◌≤◌, ◌<◌}
use native.Mathlib.Omega.{arith}
use native.Mathlib.Decide.{dec_le}
use lib.Dec.{leb}
use lib.ListN.{length, get_or}
use borrow.Author.Tests.{leb-true, leb-false, le-leb, lt-leb}
use Rattle.lists.specs.Entries.{Sorted, Number}
use Rattle.lists.specs.Filled.{filled}
use Rattle.lists.proofs.Listed.{listed_ext, listed_self}
use Rattle.lists.proofs.Rooms.{fills_same, fills_at, fills_past}
use Rattle.rule.specs.Net.{Net}
use Rattle.rule.specs.Steps.{Step, Joined, GoodOrder, Earlier, step_list, step_at}
use Rattle.rule.specs.declared.Refusal.{Refusal}
use Rattle.rule.specs.declared.Refusal.TheVariants.{NotReady, NoRoom}
use Rattle.rule.specs.Answers.{Answer}
use Rattle.std.specs.Prelude.{Ok, Err}
use Rattle.rule.proofs.StepLists.{list_good, list_sorted, list_number}
use Rattle.card.specs.declared.Session.{Session}
use Rattle.card.specs.Session.{card_of}
use Rattle.card.proofs.Kept.{card_fits}
use Rattle.session.specs.Good.{Good}
use Rattle.step_list.specs.Listing.{Listed, list_of}
use Rattle.step_list.specs.Inner.Listing.{numbered_step, steps_named, Holds}
use Rattle.step_list.proofs.Lists.{held_net, held_time}

module _ (s : Session) (nets times : List ℕ) where
  abbrev ks : List Step
  ks = step_list (card_of s)

  -- refused: the lent places keep what they had
  abbrev refused : Answer → Listed
  refused a = record { answer = a; nets = nets; times = times }

  abbrev full : Listed
  full = record { answer = Ok (length ks); nets = filled (λ e. (step_at ks e).net) (length ks) nets; times = filled (λ e. (step_at ks e).time) (length ks) times }

  -- the tests, one after another
  abbrev tested : Bool → Bool → Bool → Listed
  tested a b d = cond a (cond (b && d) full (refused (Err NoRoom))) (refused (Err NotReady))

  by_tests : (a b d : Bool) → s.loaded ≡ a → leb (length ks) (length nets) ≡ b → leb (length ks) (length times) ≡ d → tested a b d ≡ list_of s nets times
  unfolding list_of
  by_tests a b d ea eb ed =
      sym (ap (λ x. tested x (leb (length ks) (length nets)) (leb (length ks) (length times))) ea ∙ ap (λ x. tested a x (leb (length ks) (length times))) eb ∙ ap (tested a b) ed)

  pub list_none : s.loaded ≡ false → refused (Err NotReady) ≡ list_of s nets times
  list_none e = by_tests false _ _ e refl refl

  module _ (loaded : s.loaded ≡ true) (total : ℕ) where
    pub list_short_nets : total ≡ length ks → length nets < total → refused (Err NoRoom) ≡ list_of s nets times
    list_short_nets e l = by_tests true false _ loaded (lt-leb (length ks) (length nets) (omega arith)) refl

    pub list_short_times : total ≡ length ks → total ≤ length nets → length times < total → refused (Err NoRoom) ≡ list_of s nets times
    list_short_times e m l = by_tests true true false loaded (le-leb (length ks) (length nets) (omega arith)) (lt-leb (length ks) (length times) (omega arith))

    -- the list stands in two arrays, whose first entries go to the lent places
    pub list_full : {nets₀ times₀ xs ys : List ℕ} → Holds ks nets₀ times₀ xs ys total → length nets₀ ≡ 4096 → length times₀ ≡ 4096 → total ≤ 4096 → total ≤ length nets → total ≤ length times
        → (ns ts : List ℕ) → ns ≡ filled (λ e. get_or xs e 0) total nets → ts ≡ filled (λ e. get_or ys e 0) total times
        → record { answer = Ok total; nets = ns; times = ts } ≡ list_of s nets times
    list_full {nets₀} {times₀} {xs} {ys} h ln lt few m l ns ts en et =
        let at : (e : ℕ) → e < total → e < length ks = λ e b. omega (arith, h.size) in
        ap (λ x. record { answer = Ok total; nets = x; times = ts }) (en ∙ fills_same 0 (λ e. get_or xs e 0) (λ e. (step_at ks e).net) total nets (λ e b. held_net h ln lt few e (at e b)))
        ∙ ap (λ y. record { answer = Ok total; nets = filled (λ e. (step_at ks e).net) total nets; times = y })
        (et ∙ fills_same 0 (λ e. get_or ys e 0) (λ e. (step_at ks e).time) total times (λ e b. held_time h ln lt few e (at e b)))
        ∙ ap (λ n. record { answer = Ok n; nets = filled (λ e. (step_at ks e).net) n nets; times = filled (λ e. (step_at ks e).time) n times }) h.size
        ∙ by_tests true true true loaded (le-leb (length ks) (length nets) (omega (arith, h.size))) (le-leb (length ks) (length times) (omega (arith, h.size)))

-- What a caller may read in an answer

module _ (s : Session) (nets times : List ℕ) where
  abbrev all : List Step
  all = step_list (card_of s)

  -- the room is too small for the list
  abbrev pub Short : Type 0
  Short = (length nets < length all) ⊎ (length times < length all)

  by_room : (b d : Bool) → leb (length all) (length nets) ≡ b → leb (length all) (length times) ≡ d → Short ⊎ ((length all ≤ length nets) × (length all ≤ length times))
  by_room true true eb ed = inr (leb-true _ _ eb, leb-true _ _ ed)
  by_room true false eb ed = inl (inr (leb-false _ _ ed))
  by_room false d eb ed = inl (inl (leb-false _ _ eb))

  short_or_fits : Short ⊎ ((length all ≤ length nets) × (length all ≤ length times))
  short_or_fits = by_room (leb (length all) (length nets)) (leb (length all) (length times)) refl refl

  -- 12 where no card is loaded: the lent places keep what they had,
  pub list_12 : s.loaded ≡ false → list_of s nets times ≡ record { answer = Err NotReady; nets = nets; times = times }
  list_12 e = sym (list_none s nets times e)

  -- 18 where one is and the room is too small: they keep it too,
  pub list_18 : s.loaded ≡ true → Short → list_of s nets times ≡ record { answer = Err NoRoom; nets = nets; times = times }
  list_18 e (inl l) = sym (list_short_nets s nets times e (length all) refl l)
  list_18 e (inr l) = sym (go (dec_le (length all) (length nets)))
    where
      go : Dec (length all ≤ length nets) → record { answer = Err NoRoom; nets = nets; times = times } ≡ list_of s nets times
      go (yes b) = list_short_times s nets times e (length all) refl b l
      go (no b) = list_short_nets s nets times e (length all) refl (omega arith)

  -- 0 else, with the list's length: the steps stand at the front, and past them all is as it was
  pub list_0 : s.loaded ≡ true → length all ≤ length nets → length all ≤ length times
      → list_of s nets times ≡ record { answer = Ok (length all); nets = filled (λ e. (step_at all e).net) (length all) nets; times = filled (λ e. (step_at all e).time) (length all) times }
  list_0 e m l = sym (by_tests s nets times true true true e (le-leb (length all) (length nets) m) (le-leb (length all) (length times) l))

  -- and each answer is given for that alone
  pub data Ruling : Listed → Type 0 where
    says_12 : s.loaded ≡ false → Ruling (record { answer = Err NotReady; nets = nets; times = times })
    says_18 : s.loaded ≡ true → Short → Ruling (record { answer = Err NoRoom; nets = nets; times = times })
    says_0 : s.loaded ≡ true → length all ≤ length nets → length all ≤ length times
        → Ruling (record { answer = Ok (length all); nets = filled (λ e. (step_at all e).net) (length all) nets; times = filled (λ e. (step_at all e).time) (length all) times })

  pub list_ruled : Ruling (list_of s nets times)
  list_ruled = go s.loaded refl short_or_fits
    where
      go : (b : Bool) → s.loaded ≡ b → Short ⊎ ((length all ≤ length nets) × (length all ≤ length times)) → Ruling (list_of s nets times)
      go false e q = subst Ruling (sym (list_12 e)) (says_12 e)
      go true e (inl q) = subst Ruling (sym (list_18 e q)) (says_18 e q)
      go true e (inr q) = subst Ruling (sym (list_0 e q.0 q.1)) (says_0 e q.0 q.1)

  pub list_refused : (why : Refusal) → (list_of s nets times).answer ≡ Err why → ((why ≡ NotReady) × (s.loaded ≡ false)) ⊎ ((why ≡ NoRoom) × (s.loaded ≡ true) × Short)
  list_refused why e = go (list_of s nets times) list_ruled e
    where
      go : (r : Listed) → Ruling r → r.answer ≡ Err why → ((why ≡ NotReady) × (s.loaded ≡ false)) ⊎ ((why ≡ NoRoom) × (s.loaded ≡ true) × Short)
      go r (says_12 l) q = inl ((cc), l)
      go r (says_18 l m) q = inr ((cc), l, m)
      go r (says_0 l m k) q = let z : ◌≡◌ {A = ℕ} 0 1 = cc in absurd (omega arith)

  -- What stands in the lent places: the steps, numbered by level, then net, then time
  module _ (loaded : s.loaded ≡ true) (m : length all ≤ length nets) (l : length all ≤ length times) where
    pub list_steps : steps_named (list_of s nets times).nets (list_of s nets times).times (length all) ≡ all
    list_steps =
        ap (λ r. steps_named r.nets r.times (length all)) (list_0 loaded m l)
        ∙ listed_ext (numbered_step (filled (λ e. (step_at all e).net) (length all) nets) (filled (λ e. (step_at all e).time) (length all) times)) (step_at all) (length all) (λ e b i. record { net = fills_at 0 (λ e. (step_at all e).net) (length all) e nets m b i; time = fills_at 0 (λ e. (step_at all e).time) (length all) e times l b i })
        ∙ sym (listed_self all _)

    pub list_keeps : (e : ℕ) → length all ≤ e → (get_or (list_of s nets times).nets e 0 ≡ get_or nets e 0) × (get_or (list_of s nets times).times e 0 ≡ get_or times e 0)
    list_keeps e b =
        (ap (λ r. get_or r.nets e 0) (list_0 loaded m l) ∙ fills_past 0 _ (length all) e nets b, ap (λ r. get_or r.times e 0) (list_0 loaded m l) ∙ fills_past 0 _ (length all) e times b)

pub record Numbered (c : List Net) : Type 0 where
  pub order : GoodOrder c (step_list c)
  pub sorted : Sorted (Earlier c) (step_list c)
  pub number : Number (Joined c) (length (step_list c))

pub list_numbered : (s : Session) → Good s → s.loaded ≡ true → Numbered (card_of s)
list_numbered s good e =
    let h = good.card e in
    let p = (card_fits s h).pinned in
    record { order = list_good (card_of s) h.accepted.free p; sorted = list_sorted (card_of s); number = list_number (card_of s) h.accepted.free p }
