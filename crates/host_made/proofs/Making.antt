-- Which way each function that makes a session again goes. Assumes nothing.
use mathlib.Core.Path.{◌≡◌, refl, sym, subst}
use mathlib.Core.Bool.{Bool, true, false, cond}
use mathlib.Core.List.{List}
use Prim.Native.Nat.{ℕ, ◌+◌, ◌<◌, ◌≤◌}
use lib.Dec.{eqb, ltb}
use lib.ListN.{get_or}
use borrow.Author.Tests.{ne_eqb, lt-ltb, le-ltb}
use Rattle.lists.specs.Places.{part, clear}
use Rattle.rule.specs.declared.Refusal.{Refusal}
use Rattle.rule.specs.Answers.{Answer}
use Rattle.std.specs.Prelude.{Option, None, Some, Ok, Err}
use Rattle.std.specs.Bool.{then_some}
use Rattle.std.specs.Result.{result_ok}
use Rattle.std.specs.Option.{ForSome}
use Rattle.std.proofs.lemmas.Option.{none-some, same_Some}
use Rattle.card_records.specs.Bytes.{u16_at}
use Rattle.card_records.specs.Written.{Bytes}
use Rattle.card.specs.declared.Session.{Session}
use Rattle.card.specs.Session.{none}
use Rattle.card.specs.Load.{load_of}
use Rattle.card.proofs.Sessions.{inputs_few}
use Rattle.card.proofs.Verdicts.{load_taken}
use Rattle.session.specs.Good.{Good}
use Rattle.session.specs.Moved.{Moved}
use Rattle.session.specs.Moves.{rest_of}
use Rattle.session.proofs.Kept.{none_good, load_good, rest_good}
use Rattle.operations.specs.declared.Engine.{Engine}
use Rattle.operations.specs.declared.Engine.TheVariants.{Fields, Steps}
use Rattle.operations.specs.Operated.{vector_by}
use Rattle.operations.proofs.Engines.{by_good as vector_good}
use Rattle.host_bytes.specs.Layout.{older_at, last_at, card_at, longest_card, card_to, session_length}
use Rattle.host_bytes.specs.Kept.{mark_of}
use Rattle.host_bytes.proofs.Bytes.{part_bytes}
use Rattle.host_made.specs.Made.{broken, when_done, held, made_by, fitting, made_plain, made_rested, made_moved, made_card, made_loaded, made_again}

-- What is made of an operation's answer

-- `ok()` of an answer is a value where the operation was done
pub ok_refused : (a : Answer) → result_ok a ≡ None → (why : Refusal) × (a ≡ Err why)
ok_refused (Err why) e = (why, refl)
ok_refused (Ok count) e = cc

pub ok_done : (a : Answer) (count : ℕ) → result_ok a ≡ Some count → a ≡ Ok count
ok_done (Err why) count e = cc
ok_done (Ok n) count e = cc

-- a session where a test passes
pub if_passed : (passes : Bool) (s : Session) → then_some passes s ≡ cond passes (held s) broken
if_passed true s = refl
if_passed false s = refl

pub by_refused : (m : Moved) (why : Refusal) → m.answer ≡ Err why → broken ≡ made_by m
unfolding made_by
by_refused m why e = rw e

pub by_done : (m : Moved) (count : ℕ) → m.answer ≡ Ok count → held m.session ≡ made_by m
unfolding made_by
by_done m count e = rw e

module _ (b : List ℕ) (s : Session) where
  pub plain_not : fitting b 0 0 ≡ false → broken ≡ made_plain b s
  unfolding made_plain
  plain_not e = rw e

  pub plain_is : fitting b 0 0 ≡ true → held s ≡ made_plain b s
  unfolding made_plain
  plain_is e = rw e

  pub rested_not : fitting b 0 s.inputs ≡ false → broken ≡ made_rested b s
  unfolding made_rested
  rested_not e = rw e

  pub rested_is : fitting b 0 s.inputs ≡ true → made_by (rest_of s (part b last_at s.inputs)) ≡ made_rested b s
  unfolding made_rested
  rested_is e = rw e

  module _ (engine : Engine) where
    pub moved_not : fitting b s.inputs s.inputs ≡ false → broken ≡ made_moved engine b s
    unfolding made_moved
    moved_not e = rw e

    pub moved_refused : fitting b s.inputs s.inputs ≡ true → (r : Moved) → r ≡ rest_of s (part b older_at s.inputs)
        → (why : Refusal) → r.answer ≡ Err why → broken ≡ made_moved engine b s
    unfolding made_moved
    moved_refused e r q why w = rw (e, ← q, w)

    pub moved_is : fitting b s.inputs s.inputs ≡ true → (r : Moved) → r ≡ rest_of s (part b older_at s.inputs) → (count : ℕ) → r.answer ≡ Ok count
        → made_by (vector_by engine r.session (part b last_at s.inputs)) ≡ made_moved engine b s
    unfolding made_moved
    moved_is e r q count w = rw (e, ← q, w)

  pub card_0 : get_or b 0 0 ≡ 0 → broken ≡ made_card b s
  unfolding made_card
  card_0 e = rw e

  pub card_1 : get_or b 0 0 ≡ 1 → made_plain b s ≡ made_card b s
  unfolding made_card
  card_1 e = rw e

  pub card_2 : get_or b 0 0 ≡ 2 → made_rested b s ≡ made_card b s
  unfolding made_card
  card_2 e = rw e

  pub card_moved : (engine : Engine) → get_or b 0 0 ≡ mark_of engine → made_moved engine b s ≡ made_card b s
  unfolding made_card
  card_moved Fields e = rw e
  card_moved Steps e = rw e

  pub card_other : ¬ (get_or b 0 0 ≡ 1) → ¬ (get_or b 0 0 ≡ 2) → ¬ (get_or b 0 0 ≡ 3) → ¬ (get_or b 0 0 ≡ 4) → broken ≡ made_card b s
  unfolding made_card
  card_other x y z w = rw (ne_eqb (get_or b 0 0) 1 x, ne_eqb (get_or b 0 0) 2 y, ne_eqb (get_or b 0 0) 3 z, ne_eqb (get_or b 0 0) 4 w)

-- Loading again

pub loaded_refused : (b : List ℕ) (len : ℕ) (why : Refusal) → (load_of none (part b card_at len)).answer ≡ Err why → broken ≡ made_loaded b len
unfolding made_loaded
loaded_refused b len why e = rw e

pub loaded_is : (b : List ℕ) (len count : ℕ) → (load_of none (part b card_at len)).answer ≡ Ok count
    → made_card b (load_of none (part b card_at len)).session ≡ made_loaded b len
unfolding made_loaded
loaded_is b len count e = rw e

module _ (b : List ℕ) where
  pub again_none : get_or b 0 0 ≡ 0 → cond (clear b 0 session_length) (held none) broken ≡ made_again b
  unfolding made_again
  again_none e = rw e

  pub again_long : ¬ (get_or b 0 0 ≡ 0) → longest_card < u16_at b 1 → broken ≡ made_again b
  unfolding made_again
  again_long n l = rw (ne_eqb, lt-ltb)

  pub again_unclear : ¬ (get_or b 0 0 ≡ 0) → u16_at b 1 ≤ longest_card → clear b (card_at + u16_at b 1) card_to ≡ false → broken ≡ made_again b
  unfolding made_again
  again_unclear n l e = rw (ne_eqb, le-ltb, e)

  pub again_loaded : ¬ (get_or b 0 0 ≡ 0) → u16_at b 1 ≤ longest_card → clear b (card_at + u16_at b 1) card_to ≡ true → made_loaded b (u16_at b 1) ≡ made_again b
  unfolding made_again
  again_loaded n l e = rw (ne_eqb, le-ltb, e)

-- What is made again meets the rule of sessions

-- where a session is made at all, it is a good one
abbrev pub AllGood : Option Session → Type 0
AllGood m = ForSome m Good

none_made : AllGood broken
none_made s e = absurd (none-some s e)

this_made : (s : Session) → Good s → AllGood (held s)
this_made s g t e = subst Good (same_Some s t e) g

done_good : (a : Answer) (m : Option Session) → AllGood m → AllGood (when_done a m)
done_good (Ok count) m g = g
done_good (Err why) m g = none_made

if_good : (t : Bool) (m : Option Session) → AllGood m → AllGood (cond t m broken)
if_good true m g = g
if_good false m g = none_made

by_good : (m : Moved) → Good m.session → AllGood (made_by m)
unfolding made_by
by_good m g = done_good m.answer (held m.session) (this_made m.session g)

pub card_good : (b : List ℕ) (s : Session) → Good s → AllGood (made_card b s)
unfolding made_card made_plain made_rested made_moved
card_good b s g = go (eqb (get_or b 0 0) 1) (eqb (get_or b 0 0) 2) (eqb (get_or b 0 0) 3) (eqb (get_or b 0 0) 4)
  where
    older : List ℕ
    older = part b older_at s.inputs

    last : List ℕ
    last = part b last_at s.inputs

    plain : AllGood (made_plain b s)
    plain = if_good (fitting b 0 0) (held s) (this_made s g)

    rested : AllGood (made_rested b s)
    rested = if_good (fitting b 0 s.inputs) (made_by (rest_of s last)) (by_good (rest_of s last) (rest_good s g last))

    moved : (engine : Engine) → AllGood (made_moved engine b s)
    moved engine =
        let m = vector_by engine (rest_of s older).session last in
        if_good (fitting b s.inputs s.inputs) (when_done (rest_of s older).answer (made_by m))
        (done_good (rest_of s older).answer (made_by m) (by_good m (vector_good engine (rest_of s older).session (rest_good s g older) last)))

    go : (x y z w : Bool) → AllGood (cond x (made_plain b s) (cond y (made_rested b s) (cond z (made_moved Fields b s) (cond w (made_moved Steps b s) broken))))
    go true y z w = plain
    go false true z w = rested
    go false false true w = moved Fields
    go false false false true = moved Steps
    go false false false false = none_made

pub again_good : (b : List ℕ) → Bytes b → AllGood (made_again b)
unfolding made_again made_loaded
again_good b h = go (eqb (get_or b 0 0) 0) (ltb longest_card (u16_at b 1)) (clear b (card_at + u16_at b 1) card_to)
  where
    card : List ℕ
    card = part b card_at (u16_at b 1)

    loaded : AllGood (made_loaded b (u16_at b 1))
    loaded =
        done_good (load_of none card).answer (made_card b (load_of none card).session)
        (card_good b (load_of none card).session (load_good none card none_good (part_bytes b h card_at (u16_at b 1))))

    go : (x y z : Bool) → AllGood (cond x (cond (clear b 0 session_length) (held none) broken) (cond y broken (cond z (made_loaded b (u16_at b 1)) broken)))
    go true y z = if_good (clear b 0 session_length) (held none) (this_made none none_good)
    go false true z = none_made
    go false false true = loaded
    go false false false = none_made

-- a card that was taken has at most 256 inputs
pub few_inputs : (s : List ℕ) → Bytes s → (count : ℕ) → (load_of none s).answer ≡ Ok count → (load_of none s).session.inputs ≤ 256
few_inputs s h count e =
    let t = load_taken none s h count e in
    subst (λ x. x.session.inputs ≤ 256) (sym t.1) (inputs_few t.0.card t.0.accepted)
