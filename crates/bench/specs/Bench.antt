-- The bench run: "It takes a vector, an order and a number k, and does the first k steps. It writes one byte for each step number: the step's
-- value if it is among the first k, else 2. The session moves only when k is the whole list, and then exactly as a vector moves it."
-- Assumes nothing.
use Rattle.std.specs.Prelude.{Bool, cond, List, ℕ, eqb, leb, length, get_or, take}
use Rattle.lists.specs.Entries.{some}
use Rattle.lists.specs.Filled.{filled}
use Rattle.word.specs.Word.{bit, val}
use Rattle.rule.specs.Net.{Net}
use Rattle.rule.specs.Steps.{step_list, step_at}
use Rattle.rule.specs.declared.Refusal.TheVariants.{TooManyAsked, NoRoom}
use Rattle.rule.specs.declared.Refusal.{Refusal}
use Rattle.std.specs.Prelude.{Ok, Err}
use Rattle.rule.specs.Answers.{Verdict}
use Rattle.inputs.specs.Inputs.{given, vector_judged}
use Rattle.card.specs.declared.Session.{Session}
use Rattle.card.specs.Session.{card_of}
use Rattle.session.specs.Moved.{Moved}
use Rattle.step_orders.specs.Orders.{steps_of, order_judged}
use Rattle.step_run.specs.Vector.{ran_along, ran_session}

pub record Benched : Type 0 where
  pub moved : Moved
  pub room : List ℕ

-- the byte of a step that was not done: "the step's value if it is among the first k, else 2"
unfoldable pub not_done : ℕ
not_done = 2

-- the byte of step number e after a run of the first entries of an order
abbrev pub byte_at : List Net → List ℕ → List ℕ → ℕ → ℕ
byte_at c words done e =
    let k = step_at (step_list c) e in
    cond (some (λ x. eqb x e) done) (val (bit (get_or words k.net 0) k.time)) not_done

abbrev pub bench_refused : Session → List ℕ → Refusal → Benched
bench_refused s room why = record { moved = record { answer = Err why; session = s }; room = room }

-- the first k entries done
unfoldable pub bench_done : Session → (ℕ → Bool) → List ℕ → ℕ → List ℕ → Benched
bench_done s new order k room =
    let c = card_of s in
    let r = ran_along s new (steps_of c (take k order)) in
    record {
      moved = record { answer = Ok r.count; session = cond (eqb k (length (step_list c))) (ran_session s r) s };
      room = filled (byte_at c r.words (take k order)) (length (step_list c)) room;
    }

abbrev pub bench_order : Session → (ℕ → Bool) → List ℕ → ℕ → List ℕ → Verdict → Benched
bench_order s new order k room (Err why) = bench_refused s room why
bench_order s new order k room (Ok _) =
    cond (leb k (length (step_list (card_of s))))
    (cond (leb (length (step_list (card_of s))) (length room)) (bench_done s new order k room) (bench_refused s room NoRoom))
    (bench_refused s room TooManyAsked)

abbrev pub bench_vector : Session → List ℕ → List ℕ → ℕ → List ℕ → Verdict → Benched
bench_vector s v order k room (Err why) = bench_refused s room why
bench_vector s v order k room (Ok _) = bench_order s (given s.kinds v) order k room (order_judged (card_of s) order)

-- "Bench run: 12, 10, 11, 15, 16, 17, 19, 18."
unfoldable pub bench_of : Session → List ℕ → List ℕ → ℕ → List ℕ → Benched
bench_of s v order k room = bench_vector s v order k room (vector_judged s.rested s.inputs v)
