-- The empty session is good, and load, rest and a vector keep a session so, whatever they are given; rest and a vector keep its card. Assumes nothing.
use mathlib.Core.Path.{◌≡◌, refl, sym, ap, ◌∙◌, subst}
use mathlib.Core.Bool.{Bool, true, false≢true}
use mathlib.Core.List.{List}
use Prim.Native.Nat.{ℕ}
use native.Mathlib.Omega.{arith}
use Rattle.lists.specs.Listed.{listed}
use Rattle.rule.specs.Net.{Net}
use Rattle.rule.specs.Rule.{AtRest}
use Rattle.std.specs.Prelude.{Ok}
use Rattle.inputs.specs.Inputs.{given}
use Rattle.card_records.specs.Written.{Bytes}
use Rattle.card.specs.declared.Session.{Session}
use Rattle.card.specs.Loaded.{Loaded}
use Rattle.card.specs.Session.{none, session_of, card_of}
use Rattle.card.specs.Load.{load_of}
use Rattle.card.specs.Allowed.{Accepted}
use Rattle.card.proofs.Sessions.{taken_unrested, resting_card}
use Rattle.card.proofs.Kept.{none_carded, session_holds, resting_holds}
use Rattle.card.proofs.Verdicts.{Ruling as LoadRuling, refuses as load_refuses, takes as load_takes, ruled as load-ruled, load_carded}
use Rattle.session.specs.Moved.{Moved}
use Rattle.session.specs.Good.{histories, Rested, Good}
use Rattle.session.specs.Moves.{ends, moved_by, vector_of, settled, rested_by, rest_of}
use Rattle.session.proofs.Moving.{ends_calm}
use Rattle.session.proofs.Settling.{settled_rests, flat_histories}
use Rattle.session.proofs.Refusals.{Ruling, refuses, takes, rest_ruled, vector_ruled}

pub none_good : Good none
unfolding none
none_good = record { card = none_carded; rest = λ e. absurd (false≢true e) }

-- a card just loaded is not yet rested; a refused one leaves the old session
pub load_good : (old : Session) (s : List ℕ) → Good old → Bytes s → Good (load_of old s).session
load_good old s g bytes = record { card = load_carded old s bytes g.card; rest = go (load_of old s) (load-ruled old s bytes) }
  where
    go : (x : Loaded) → LoadRuling old s x → x.session.rested ≡ true → (x.session.loaded ≡ true) × Rested x.session
    go x (load_refuses r w) e = g.rest e
    go x (load_takes a) e = absurd (false≢true (sym (taken_unrested a.card) ∙ e))

-- a card that load takes
pub taken_good : (c : List Net) → Accepted c → Good (session_of c)
taken_good c a = record { card = λ l. session_holds c a; rest = λ e. absurd (false≢true (sym (taken_unrested c) ∙ e)) }

-- a vector and a rest move the session to another rest of the same card
pub moved_card : (s : Session) (new : ℕ → Bool) → card_of (moved_by s new) ≡ card_of s
unfolding moved_by
moved_card s new = resting_card s s.rested _ _

pub rested_card : (s : Session) (new : ℕ → Bool) → card_of (rested_by s new) ≡ card_of s
unfolding rested_by
rested_card s new = resting_card s true _ _

module _ (s : Session) (g : Good s) where
  pub moved_good : s.rested ≡ true → (new : ℕ → Bool) → Good (moved_by s new)
  unfolding moved_by
  moved_good r new =
      let q = g.rest r in
      let h = g.card q.0 in
      record {
        card = λ l. resting_holds s s.rested (listed (ends s) 256) (histories (card_of s) (ends s) new) h;
        rest = λ e. (
          q.0,
          record {
            old = ends s;
            new = new;
            calm = subst (λ c. AtRest c (ends s)) (sym (moved_card s new)) (ends_calm s h q.1);
            before_are = refl;
            words_are = ap (λ c. histories c (ends s) new) (sym (moved_card s new));
          },
        );
      }

  pub rested_good : s.loaded ≡ true → (new : ℕ → Bool) → Good (rested_by s new)
  unfolding rested_by
  rested_good l new =
      let h = g.card l in
      record {
        card = λ e. resting_holds s true _ _ h;
        rest = λ e. (
          l,
          record {
            old = settled (card_of s) new;
            new = new;
            calm = subst (λ c. AtRest c (settled (card_of s) new)) (sym (rested_card s new)) (settled_rests s h new).calm;
            before_are = refl;
            words_are = flat_histories s h new ∙ ap (λ c. histories c (settled (card_of s) new) new) (sym (rested_card s new));
          },
        );
      }

  pub rest_good : (v : List ℕ) → Good (rest_of s v).session
  rest_good v = go (rest_of s v) (rest_ruled s v)
    where
      go : (x : Moved) → Ruling s.loaded s v 0 (rested_by s (given s.kinds v)) x → Good x.session
      go x (refuses r w) = g
      go x (takes l w) = rested_good l (given s.kinds v)

  pub vector_good : (v : List ℕ) → Good (vector_of s v).session
  vector_good v = go (vector_of s v) (vector_ruled s v)
    where
      go : (x : Moved) → Ruling s.rested s v 0 (moved_by s (given s.kinds v)) x → Good x.session
      go x (refuses r w) = g
      go x (takes l w) = moved_good l (given s.kinds v)

-- Rest and a vector keep the card; a vector that is done leaves the session rested

module _ (s : Session) (v : List ℕ) where
  pub rest_card : card_of (rest_of s v).session ≡ card_of s
  rest_card = go (rest_of s v) (rest_ruled s v)
    where
      go : (x : Moved) → Ruling s.loaded s v 0 (rested_by s (given s.kinds v)) x → card_of x.session ≡ card_of s
      go x (refuses r w) = refl
      go x (takes l w) = rested_card s (given s.kinds v)

  pub vector_card : card_of (vector_of s v).session ≡ card_of s
  vector_card = go (vector_of s v) (vector_ruled s v)
    where
      go : (x : Moved) → Ruling s.rested s v 0 (moved_by s (given s.kinds v)) x → card_of x.session ≡ card_of s
      go x (refuses r w) = refl
      go x (takes l w) = moved_card s (given s.kinds v)

  pub vector_rests : (k : ℕ) → (vector_of s v).answer ≡ Ok k → (vector_of s v).session.rested ≡ true
  unfolding moved_by
  vector_rests k d = go (vector_of s v) (vector_ruled s v) d
    where
      go : (x : Moved) → Ruling s.rested s v 0 (moved_by s (given s.kinds v)) x → x.answer ≡ Ok k → x.session.rested ≡ true
      go x (refuses r w) q = let z : ◌≡◌ {A = ℕ} 0 1 = cc in absurd (omega arith)
      go x (takes l w) q = l
