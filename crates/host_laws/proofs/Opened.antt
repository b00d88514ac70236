-- What bytes that hold a session say of it: nothing, a card, a card at rest, or a card that a vector moved. Assumes nothing.
use mathlib.Core.Path.{◌≡◌, refl, sym, ap, subst, ◌∙◌}
use mathlib.Core.Bool.{Bool, true, false, cond}
use mathlib.Core.List.{List}
use Prim.Native.Nat.{ℕ, ◌+◌, ◌≤◌}
use native.Mathlib.Omega.{arith}
use lib.Dec.{eqb, ltb}
use lib.ListN.{length, get_or}
use borrow.Author.Tests.{eqb-true, ltb-false}
use Rattle.lists.specs.Places.{part, clear}
use Rattle.rule.specs.Net.{Net}
use Rattle.std.specs.Prelude.{Option, IfSome, Ok}
use Rattle.inputs.specs.Inputs.{given}
use Rattle.inputs.specs.Allowed.{Vector}
use Rattle.card_records.specs.Bytes.{u16_at}
use Rattle.card_records.specs.Written.{Bytes, card_bytes}
use Rattle.card.specs.declared.Session.{Session}
use Rattle.card.specs.Loaded.{Loaded}
use Rattle.card.specs.Session.{none, session_of}
use Rattle.card.specs.Load.{load_of, taken}
use Rattle.card.specs.Allowed.{Accepted}
use Rattle.card.proofs.Sessions.{taken_loaded}
use Rattle.card.proofs.Verdicts.{load_takes, ruled as load-ruled, Ruling as LoadRuling, refuses as load_refuses, takes as load-allows}
use Rattle.session.specs.Moved.{Moved}
use Rattle.session.specs.Good.{Good}
use Rattle.session.specs.Moves.{moved_by, rested_by, rest_of}
use Rattle.session.proofs.Kept.{taken_good, rested_good}
use Rattle.session.proofs.SameCard.{SameCard, same_self, rested_same, moved_same}
use Rattle.session.proofs.Refusals.{Ruling, refuses, takes, rest_ruled, rest_takes}
use Rattle.operations.specs.declared.Engine.{Engine}
use Rattle.operations.specs.declared.Engine.TheVariants.{Fields, Steps}
use Rattle.operations.specs.Operated.{vector_by}
use Rattle.operations.proofs.Engines.{count_by, by_takes, by_ruled}
use Rattle.host_bytes.specs.Layout.{older_at, last_at, card_at, longest_card, card_to, session_length}
use Rattle.host_bytes.specs.Kept.{mark_of}
use Rattle.host_bytes.proofs.Bytes.{part_bytes}
use Rattle.host_made.specs.Made.{broken, when_done, held, made_by, fitting, made_plain, made_rested, made_moved, made_card, made_loaded, made_again}
use Rattle.host_made.proofs.Making.{by_done, plain_is, rested_is, moved_is, card_1, card_2, card_moved, loaded_is, again_none, again_loaded}

-- the bytes carry a card
pub record Carried (b : List ℕ) (c : List Net) : Type 0 where
  pub low : u16_at b 1 ≤ longest_card
  pub empty : clear b (card_at + u16_at b 1) card_to ≡ true
  pub bytes : part b card_at (u16_at b 1) ≡ card_bytes c
  pub accepted : Accepted c

-- a card just loaded, its number of inputs, and a vector's values on it
abbrev pub inputs : List Net → ℕ
inputs c = (session_of c).inputs

abbrev pub values : List Net → List ℕ → ℕ → Bool
values c v = given (session_of c).kinds v

-- it rested by a vector, and moved by another
abbrev pub at_rest : List Net → List ℕ → Session
at_rest c v = rested_by (session_of c) (values c v)

abbrev pub after_both : List Net → List ℕ → List ℕ → Session
after_both c v w = moved_by (at_rest c v) (values c w)

-- what the bytes say, state by state
pub data Kept (b : List ℕ) : Session → Type 0 where
  keeps_none : get_or b 0 0 ≡ 0 → clear b 0 session_length ≡ true → Kept b none
  keeps_card : (c : List Net) → Carried b c → get_or b 0 0 ≡ 1 → fitting b 0 0 ≡ true → Kept b (session_of c)
  keeps_rest : (c : List Net) → Carried b c → get_or b 0 0 ≡ 2 → fitting b 0 (inputs c) ≡ true → Vector (inputs c) (part b last_at (inputs c))
      → Kept b (at_rest c (part b last_at (inputs c)))
  keeps_moved : (e : Engine) (c : List Net) → Carried b c → get_or b 0 0 ≡ mark_of e → fitting b (inputs c) (inputs c) ≡ true
      → Vector (inputs c) (part b older_at (inputs c)) → Vector (inputs c) (part b last_at (inputs c))
      → Kept b (after_both c (part b older_at (inputs c)) (part b last_at (inputs c)))

-- Of a card just loaded

-- it rests by a vector, and keeps all else
pub rest_taken : (c : List Net) (v : List ℕ) → Vector (inputs c) v → rest_of (session_of c) v ≡ record { answer = Ok 0; session = at_rest c v }
rest_taken c v w = rest_takes (session_of c) v (taken_loaded c) w

pub rest_same : (c : List Net) (v : List ℕ) → SameCard (session_of c) true (at_rest c v)
rest_same c v = rested_same (session_of c) (session_of c).rested (session_of c) (same_self (session_of c)) (values c v)

pub rest_good : (c : List Net) (v : List ℕ) → Accepted c → Good (at_rest c v)
rest_good c v a = rested_good (session_of c) (taken_good c a) (taken_loaded c) (values c v)

-- a vector fits it at rest as it fits the card just loaded
rest_fits : (c : List Net) (v w : List ℕ) → Vector (inputs c) w → Vector (at_rest c v).inputs w
rest_fits c v w h = subst (λ s. Vector s.inputs w) (sym (rest_same c v).card) h

-- and the next vector gives its nets the same values
pub both_same : (c : List Net) (v w : List ℕ) → moved_by (at_rest c v) (given (at_rest c v).kinds w) ≡ after_both c v w
both_same c v w = ap (λ s. moved_by (at_rest c v) (given s.kinds w)) (rest_same c v).card

pub both_keeps : (c : List Net) (v w : List ℕ) → SameCard (session_of c) true (after_both c v w)
both_keeps c v w = moved_same (session_of c) true (at_rest c v) (rest_same c v) (values c w)

pub both_taken : (e : Engine) (c : List Net) (v w : List ℕ) → Accepted c → Vector (inputs c) w
    → vector_by e (at_rest c v) w ≡ record { answer = Ok (count_by e (at_rest c v)); session = after_both c v w }
both_taken e c v w a h =
    by_takes e (at_rest c v) (rest_good c v a) (rest_same c v).rests w (rest_fits c v w h)
    ∙ ap (λ s. record { answer = Ok (count_by e (at_rest c v)); session = s }) (both_same c v w)

-- a card that a vector moved is some card
mark_some : (e : Engine) → ¬ (mark_of e ≡ 0)
mark_some Fields q = omega arith
mark_some Steps q = omega arith

-- Bytes that say so hold the session

module _ (b : List ℕ) (h : Bytes b) where
  pub carries : (c : List Net) → Carried b c → load_of none (part b card_at (u16_at b 1)) ≡ taken c
  carries c k =
      load_takes none (part b card_at (u16_at b 1)) (part_bytes b h card_at (u16_at b 1)) (record { card = c; bytes = k.bytes; accepted = k.accepted })

  by_card : (c : List Net) (s : Session) → Carried b c → ¬ (get_or b 0 0 ≡ 0) → made_card b (session_of c) ≡ held s → made_again b ≡ held s
  by_card c s k n e =
      let l = carries c k in
      sym (again_loaded b n k.low k.empty) ∙ sym (loaded_is b (u16_at b 1) (length c) (ap (λ x. x.answer) l))
      ∙ ap (λ x. made_card b x.session) l ∙ e

  pub closed : (s : Session) → Kept b s → made_again b ≡ held s
  closed s (keeps_none z e) = sym (again_none b z) ∙ ap (λ x. cond x (held none) broken) e
  closed s (keeps_card c k z f) =
      by_card c s k (λ o. let x = sym z ∙ o in omega arith) (sym (card_1 b (session_of c) z) ∙ sym (plain_is b (session_of c) f))
  closed s (keeps_rest c k z f w) =
      let v = part b last_at (inputs c) in
      let t = rest_taken c v w in
      by_card c s k (λ o. let x = sym z ∙ o in omega arith)
      (sym (card_2 b (session_of c) z) ∙ sym (rested_is b (session_of c) f) ∙ ap made_by t
      ∙ sym (by_done (record { answer = Ok 0; session = s }) 0 refl))
  closed s (keeps_moved e c k z f w u) =
      let o = part b older_at (inputs c) in
      let v = part b last_at (inputs c) in
      let count = count_by e (at_rest c o) in
      by_card c s k (λ n. mark_some e (sym z ∙ n))
      (sym (card_moved b (session_of c) e z) ∙ sym (moved_is b (session_of c) e f (record { answer = Ok 0; session = at_rest c o }) (sym (rest_taken c o w)) 0 refl)
      ∙ ap made_by (both_taken e c o v k.accepted u) ∙ sym (by_done (record { answer = Ok count; session = s }) count refl))

  -- Bytes that hold a session say so

  abbrev Opens : Option Session → Type 0
  Opens m = IfSome m (Kept b)

  opens_not : Opens broken
  opens_not = tt

  module _ (c : List Net) (k : Carried b c) where
    opens_plain : get_or b 0 0 ≡ 1 → Opens (made_plain b (session_of c))
    unfolding made_plain
    opens_plain z = go (fitting b 0 0) refl
      where
        go : (x : Bool) → fitting b 0 0 ≡ x → Opens (cond x (held (session_of c)) broken)
        go true f = keeps_card c k z f
        go false f = opens_not

    opens_rested : get_or b 0 0 ≡ 2 → Opens (made_rested b (session_of c))
    unfolding made_rested made_by
    opens_rested z = go (fitting b 0 (inputs c)) refl
      where
        v : List ℕ
        v = part b last_at (inputs c)

        by : fitting b 0 (inputs c) ≡ true → (m : Moved) → Ruling (session_of c).loaded (session_of c) v 0 (at_rest c v) m
            → Opens (when_done m.answer (held m.session))
        by f m (refuses r g) = opens_not
        by f m (takes l w) = keeps_rest c k z f w

        go : (x : Bool) → fitting b 0 (inputs c) ≡ x → Opens (cond x (made_by (rest_of (session_of c) v)) broken)
        go true f = by f (rest_of (session_of c) v) (rest_ruled (session_of c) v)
        go false f = opens_not

    opens_moved : (e : Engine) → get_or b 0 0 ≡ mark_of e → Opens (made_moved e b (session_of c))
    unfolding made_moved made_by
    opens_moved e z = go (fitting b (inputs c) (inputs c)) refl
      where
        o : List ℕ
        o = part b older_at (inputs c)

        v : List ℕ
        v = part b last_at (inputs c)

        last : fitting b (inputs c) (inputs c) ≡ true → Vector (inputs c) o
            → (m : Moved) → Ruling (at_rest c o).rested (at_rest c o) v (count_by e (at_rest c o)) (moved_by (at_rest c o) (given (at_rest c o).kinds v)) m
            → Opens (when_done m.answer (held m.session))
        last f w m (refuses r g) = opens_not
        last f w m (takes l u) =
            subst (Kept b) (sym (both_same c o v)) (keeps_moved e c k z f w (subst (λ s. Vector s.inputs v) (rest_same c o).card u))

        by : fitting b (inputs c) (inputs c) ≡ true → (m : Moved) → Ruling (session_of c).loaded (session_of c) o 0 (at_rest c o) m
            → Opens (when_done m.answer (made_by (vector_by e m.session v)))
        by f m (refuses r g) = opens_not
        by f m (takes l w) = last f w (vector_by e (at_rest c o) v) (by_ruled e (at_rest c o) (rest_good c o k.accepted) v)

        go : (x : Bool) → fitting b (inputs c) (inputs c) ≡ x
            → Opens (cond x (when_done (rest_of (session_of c) o).answer (made_by (vector_by e (rest_of (session_of c) o).session v))) broken)
        go true f = by f (rest_of (session_of c) o) (rest_ruled (session_of c) o)
        go false f = opens_not

    opens_card : Opens (made_card b (session_of c))
    unfolding made_card
    opens_card = go (eqb (get_or b 0 0) 1) refl (eqb (get_or b 0 0) 2) refl (eqb (get_or b 0 0) 3) refl (eqb (get_or b 0 0) 4) refl
      where
        go : (x : Bool) → eqb (get_or b 0 0) 1 ≡ x → (y : Bool) → eqb (get_or b 0 0) 2 ≡ y → (z : Bool) → eqb (get_or b 0 0) 3 ≡ z → (w : Bool) → eqb (get_or b 0 0) 4 ≡ w
            → Opens (cond x (made_plain b (session_of c))
            (cond y (made_rested b (session_of c)) (cond z (made_moved Fields b (session_of c)) (cond w (made_moved Steps b (session_of c)) broken))))
        go true e y _ z _ w _ = opens_plain (eqb-true (get_or b 0 0) 1 e)
        go false _ true e z _ w _ = opens_rested (eqb-true (get_or b 0 0) 2 e)
        go false _ false _ true e w _ = opens_moved Fields (eqb-true (get_or b 0 0) 3 e)
        go false _ false _ false _ true e = opens_moved Steps (eqb-true (get_or b 0 0) 4 e)
        go false _ false _ false _ false _ = opens_not

  opens_loaded : u16_at b 1 ≤ longest_card → clear b (card_at + u16_at b 1) card_to ≡ true → Opens (made_loaded b (u16_at b 1))
  unfolding made_loaded
  opens_loaded l e = go (load_of none p) (load-ruled none p (part_bytes b h card_at (u16_at b 1)))
    where
      p : List ℕ
      p = part b card_at (u16_at b 1)

      go : (x : Loaded) → LoadRuling none p x → Opens (when_done x.answer (made_card b x.session))
      go x (load_refuses r g) = opens_not
      go x (load-allows a) = opens_card a.card (record { low = l; empty = e; bytes = a.bytes; accepted = a.accepted })

  opens_again : Opens (made_again b)
  unfolding made_again
  opens_again = go (eqb (get_or b 0 0) 0) refl (ltb longest_card (u16_at b 1)) refl (clear b (card_at + u16_at b 1) card_to) refl
    where
      clean : get_or b 0 0 ≡ 0 → (x : Bool) → clear b 0 session_length ≡ x → Opens (cond x (held none) broken)
      clean z true e = keeps_none z e
      clean z false e = opens_not

      go : (x : Bool) → eqb (get_or b 0 0) 0 ≡ x → (y : Bool) → ltb longest_card (u16_at b 1) ≡ y → (z : Bool) → clear b (card_at + u16_at b 1) card_to ≡ z
          → Opens (cond x (cond (clear b 0 session_length) (held none) broken) (cond y broken (cond z (made_loaded b (u16_at b 1)) broken)))
      go true e y _ z _ = clean (eqb-true (get_or b 0 0) 0 e) (clear b 0 session_length) refl
      go false _ true _ z _ = opens_not
      go false _ false e true f = opens_loaded (ltb-false longest_card (u16_at b 1) e) f
      go false _ false _ false _ = opens_not

  pub opened : (s : Session) → made_again b ≡ held s → Kept b s
  opened s e = subst Opens e opens_again
