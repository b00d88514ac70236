-- A refusal changes nothing: of each operation by the cases of its definition. Assumes nothing.
use mathlib.Core.Path.{◌≡◌, refl}
use mathlib.Core.Bool.{Bool, true, false, cond, ◌&&◌}
use mathlib.Core.List.{List, [], ◌∷◌}
use Prim.Native.Nat.{ℕ, ◌+◌}
use lib.Dec.{eqb, leb, ltb}
use lib.ListN.{length}
use Rattle.rule.specs.Net.{Net}
use Rattle.rule.specs.Steps.{step_list}
use Rattle.rule.specs.declared.Refusal.{Refusal}
use Rattle.rule.specs.declared.Refusal.TheVariants.{NotReady, NoRoom, NoInput, NoSuchNet, NoChange, TooManyAsked}
use Rattle.rule.specs.Answers.{Answer}
use Rattle.std.specs.Prelude.{Ok, Err}
use Rattle.rule.specs.Answers.{Verdict}
use Rattle.card_wiring.specs.Wired.{verdict_of, wired_of}
use Rattle.inputs.specs.Inputs.{given, vector_judged}
use Rattle.card_records.specs.Scan.{Meaning, Stops, Means, meaning}
use Rattle.card.specs.declared.Session.{Session}
use Rattle.card.specs.Session.{inputs_of, session_of, card_of}
use Rattle.card.specs.Load.{refusal, concluded, judged, load_meant, load_of}
use Rattle.card.specs.Asked.{net_asked}
use Rattle.session.specs.Moves.{moving, rest_of, vector_of}
use Rattle.history.specs.Told.{Told, history_of}
use Rattle.trace.specs.Traced.{Traced, changed_then, trace_of}
use Rattle.step_orders.specs.Orders.{order_judged}
use Rattle.step_list.specs.Listing.{Listed, list_of}
use Rattle.step_run.specs.Vector.{steps_vector_of}
use Rattle.step_records.specs.declared.StepRecord.{StepRecord}
use Rattle.step_records.specs.Records.{Answered, records_of}
use Rattle.bench.specs.Bench.{bench_refused, bench_done, bench_order, bench_vector, bench_of}
use Rattle.operations.specs.declared.Engine.{Engine}
use Rattle.operations.specs.declared.Engine.TheVariants.{Fields, Steps}
use Rattle.demands.specs.Operations.{Operation, load, rest, vector, history, list, records, ask, trace, bench, Lent, slices, lent_to, Outcome, answered, told, outcome, Same}

abbrev Refusing : Session → Lent → Outcome → Type 0
Refusing s lent o = ¬ (o.number ≡ 0) → Same s lent o

refuses : {s : Session} {lent : Lent} (why : Refusal) → Refusing s lent (answered (Err why) s lent)
refuses why n = record { count = refl; level = refl; word = refl; session = refl; room = refl }

does : {s s' : Session} {lent lent' : Lent} (k : ℕ) → Refusing s lent (answered (Ok k) s' lent')
does k n = absurd (n refl)

load_keeps : (s : Session) (b : List ℕ) → Refusing s (slices []) (outcome s (load b))
unfolding load_of judged
load_keeps s b = by_meaning (meaning b)
  where
    by_verdict : (c : List Net) (t : Bool) (w : Verdict) → let l = cond t (refusal s NoInput) (concluded s (session_of c) (length c) w) in Refusing s (slices []) (answered l.answer l.session (slices []))
    by_verdict c true w = refuses NoInput
    by_verdict c false (Err why) = refuses why
    by_verdict c false (Ok _) = does (length c)

    by_meaning : (m : Meaning) → let l = load_meant s m in Refusing s (slices []) (answered l.answer l.session (slices []))
    by_meaning (Stops why) = refuses why
    by_meaning (Means c) = by_verdict c (eqb (inputs_of c) 0) (verdict_of (wired_of c))

-- an operation that takes a vector
moves_keep : (s next : Session) (verdict : Verdict) (k : ℕ) → let m = moving s verdict k next in Refusing s (slices []) (answered m.answer m.session (slices []))
moves_keep s next (Err why) k = refuses why
moves_keep s next (Ok _) k = does k

vector_keeps : (s : Session) (e : Engine) (v : List ℕ) → Refusing s (slices []) (outcome s (vector e v))
unfolding vector_of steps_vector_of
vector_keeps s Fields v = moves_keep s _ (vector_judged s.rested s.inputs v) 0
vector_keeps s Steps v = moves_keep s _ (vector_judged s.rested s.inputs v) _

rest_keeps : (s : Session) (v : List ℕ) → Refusing s (slices []) (outcome s (rest v))
unfolding rest_of
rest_keeps s v = moves_keep s _ (vector_judged s.loaded s.inputs v) 0

-- an operation that fills lent room: not ready, too little room, or done
told_keeps : (s : Session) (ws bs fs ws' bs' fs' : List ℕ) (k : ℕ) (x y : Bool)
    → let kept : Answer → Told = λ a. record { answer = a; words = ws; befores = bs; flags = fs } in
    let h = cond x (cond y (record { answer = Ok k; words = ws'; befores = bs'; flags = fs' }) (kept (Err NoRoom))) (kept (Err NotReady)) in
    Refusing s (slices (ws ∷ bs ∷ fs ∷ [])) (answered h.answer s (slices (h.words ∷ h.befores ∷ h.flags ∷ [])))
told_keeps s ws bs fs ws' bs' fs' k true true = does k
told_keeps s ws bs fs ws' bs' fs' k true false = refuses NoRoom
told_keeps s ws bs fs ws' bs' fs' k false y = refuses NotReady

history_keeps : (s : Session) (ws bs fs : List ℕ) → Refusing s (lent_to (history ws bs fs)) (outcome s (history ws bs fs))
unfolding history_of
history_keeps s ws bs fs = told_keeps s ws bs fs _ _ _ s.nets s.rested (leb s.nets (length ws) && (leb s.nets (length bs) && leb s.nets (length fs)))

listed_keeps : (s : Session) (ns ts ns' ts' : List ℕ) (k : ℕ) (x y : Bool)
    → let kept : Answer → Listed = λ a. record { answer = a; nets = ns; times = ts } in
    let l = cond x (cond y (record { answer = Ok k; nets = ns'; times = ts' }) (kept (Err NoRoom))) (kept (Err NotReady)) in
    Refusing s (slices (ns ∷ ts ∷ [])) (answered l.answer s (slices (l.nets ∷ l.times ∷ [])))
listed_keeps s ns ts ns' ts' k true true = does k
listed_keeps s ns ts ns' ts' k true false = refuses NoRoom
listed_keeps s ns ts ns' ts' k false y = refuses NotReady

list_keeps : (s : Session) (ns ts : List ℕ) → Refusing s (lent_to (list ns ts)) (outcome s (list ns ts))
unfolding list_of
list_keeps s ns ts = let n = length (step_list (card_of s)) in listed_keeps s ns ts _ _ n s.loaded (leb n (length ns) && leb n (length ts))

filled_keep : (s : Session) (room room' : List StepRecord) (k : ℕ) (x y : Bool)
    → let kept : Answer → Answered = λ a. record { answer = a; room = room } in
    let r = cond x (cond y (record { answer = Ok k; room = room' }) (kept (Err NoRoom))) (kept (Err NotReady)) in
    Refusing s (record { numbers = []; structs = room }) (answered r.answer s (record { numbers = []; structs = r.room }))
filled_keep s room room' k true true = does k
filled_keep s room room' k true false = refuses NoRoom
filled_keep s room room' k false y = refuses NotReady

records_keep : (s : Session) (room : List StepRecord) → Refusing s (lent_to (records room)) (outcome s (records room))
unfolding records_of
records_keep s room = let n = length (step_list (card_of s)) in filled_keep s room _ n s.loaded (leb n (length room))

ask_keeps : (s : Session) (n : ℕ) → Refusing s (slices []) (outcome s (ask n))
unfolding net_asked
ask_keeps s n = go s.loaded (ltb n s.nets) _ _
  where
    go : (x y : Bool) (l w : ℕ) → Refusing s (slices []) (told (cond x (cond y (Ok (record { level = l; word = w })) (Err NoSuchNet)) (Err NotReady)) s)
    go true true l w m = absurd (m refl)
    go true false l w m = record { count = refl; level = refl; word = refl; session = refl; room = refl }
    go false y l w m = record { count = refl; level = refl; word = refl; session = refl; room = refl }

trace_keeps : (s : Session) (n t : ℕ) (room : List ℕ) → Refusing s (slices (room ∷ [])) (outcome s (trace n t room))
unfolding trace_of
trace_keeps s n t room = go s.rested (ltb n s.nets) (changed_then s n t) (leb (t + 1) (length room)) _
  where
    go : (w x y z : Bool) (room' : List ℕ)
        → let kept : Answer → Traced = λ a. record { answer = a; room = room } in
        let full : Traced = record { answer = Ok (t + 1); room = room' } in
        let r = cond w (cond x (cond y (cond z full (kept (Err NoRoom))) (kept (Err NoChange))) (kept (Err NoSuchNet))) (kept (Err NotReady)) in
        Refusing s (slices (room ∷ [])) (answered r.answer s (slices (r.room ∷ [])))
    go true true true true room' = does (t + 1)
    go true true true false room' = refuses NoRoom
    go true true false z room' = refuses NoChange
    go true false y z room' = refuses NoSuchNet
    go false x y z room' = refuses NotReady

bench_keeps : (s : Session) (v order : List ℕ) (k : ℕ) (room : List ℕ) → Refusing s (slices (room ∷ [])) (outcome s (bench v order k room))
unfolding bench_of bench_done
bench_keeps s v order k room = go (vector_judged s.rested s.inputs v)
  where
    by_limits : (x y : Bool)
        → let b = cond x (cond y (bench_done s (given s.kinds v) order k room) (bench_refused s room NoRoom)) (bench_refused s room TooManyAsked) in
        Refusing s (slices (room ∷ [])) (answered b.moved.answer b.moved.session (slices (b.room ∷ [])))
    by_limits true true = does _
    by_limits true false = refuses NoRoom
    by_limits false y = refuses TooManyAsked

    by_order : (j : Verdict)
        → let b = bench_order s (given s.kinds v) order k room j in Refusing s (slices (room ∷ [])) (answered b.moved.answer b.moved.session (slices (b.room ∷ [])))
    by_order (Err why) = refuses why
    by_order (Ok _) = by_limits (leb k (length (step_list (card_of s)))) (leb (length (step_list (card_of s))) (length room))

    go : (x : Verdict) → let b = bench_vector s v order k room x in Refusing s (slices (room ∷ [])) (answered b.moved.answer b.moved.session (slices (b.room ∷ [])))
    go (Err why) = refuses why
    go (Ok _) = by_order (order_judged (card_of s) order)

pub keeps : (s : Session) (o : Operation) → Refusing s (lent_to o) (outcome s o)
keeps s (load b) = load_keeps s b
keeps s (rest v) = rest_keeps s v
keeps s (vector e v) = vector_keeps s e v
keeps s (history ws bs fs) = history_keeps s ws bs fs
keeps s (list ns ts) = list_keeps s ns ts
keeps s (records room) = records_keep s room
keeps s (ask n) = ask_keeps s n
keeps s (trace n t room) = trace_keeps s n t room
keeps s (bench v order k room) = bench_keeps s v order k room
