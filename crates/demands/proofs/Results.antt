-- "Each public operation has a contract that names its result, the new session and the lent memory for all inputs and refusals; that two results allowed by it
-- are equal is shown." Of every operation: what its function promises is exactly that the result is an allowed one, two allowed results are equal, and what it asks is the
-- session predicate or nothing; and so of the sheet's pieces and of the host's calls. Assumes nothing.
use mathlib.Core.Path.{◌≡◌, refl, sym, ap, ◌∙◌}
use mathlib.Core.List.{List}
use Prim.Native.Nat.{ℕ, ◌≤◌}
use seplogic.Ra.Ura.{Ura}
use base.Logic.{SProp, emp}
use contract.Lifetimes.{Lfts}
use contract.Monad.{Fun, fact}
use denote.Triple.Clauses.{Ended, AtExit, Clauses}
use denote.Triple.Entry.{Args, Res}
use types.Logic.{Logic}
use prog.Memory.{Memory}
use prog.Routine.{Routine}
use Rattle.card.specs.declared.Session.{Session}
use Rattle.card.specs.Session.{none}
use Rattle.card.specs.Held.{Carded}
use Rattle.card.specs.Asked.{depth_asked, steps_asked}
use Rattle.card.specs.contracts.empty as empty_fn
use Rattle.card.specs.contracts.load as load_fn
use Rattle.card.specs.contracts.ask_net as ask_fn
use Rattle.card.specs.contracts.depth_of as depth_fn
use Rattle.card.specs.contracts.steps_of as count_fn
use Rattle.session.specs.Good.{Good}
use Rattle.session.specs.contracts.rest as rest_fn
use Rattle.session.specs.contracts.vector as vector_fn
use Rattle.history.specs.contracts.history as history_fn
use Rattle.trace.specs.contracts.trace as trace_fn
use Rattle.step_list.specs.contracts.list as list_fn
use Rattle.step_run.specs.contracts.vector_steps as steps_fn
use Rattle.step_records.specs.contracts.list_records as records_fn
use Rattle.bench.specs.contracts.bench as bench_fn
use Rattle.sheet_pieces.specs.declared.Sheet.{Sheet}
use Rattle.sheet_pieces.specs.Pieces.{Standing, fresh, piece_of, Written, written, is_over}
use Rattle.sheet_pieces.specs.contracts.begin as begin_fn
use Rattle.sheet_pieces.specs.contracts.next as next_fn
use Rattle.sheet_pieces.specs.contracts.is_over as over_fn
use Rattle.operations.specs.declared.Engine.{Engine}
use Rattle.operations.specs.declared.Engine.TheVariants.{Fields, Steps}
use Rattle.operations.specs.declared.Move.{Move}
use Rattle.operations.specs.declared.Move.TheVariants.{Load, Rest, Vector}
use Rattle.operations.specs.Operated.{vector_by, operated}
use Rattle.operations.specs.contracts.vector_by as by_fn
use Rattle.operations.specs.contracts.operate as operate_fn
use Rattle.host.specs.Vectors.{ManyShown, host_vectors}
use Rattle.host.specs.Calls.{Hosted, host_move, Shown, host_history}
use Rattle.host.specs.contracts.krasvome_load as host_load_fn
use Rattle.host.specs.contracts.krasvome_rest as host_rest_fn
use Rattle.host.specs.contracts.krasvome_vector as host_vector_fn
use Rattle.host.specs.contracts.krasvome_steps as host_steps_fn
use Rattle.host.specs.contracts.krasvome_history as host_history_fn
use Rattle.host.specs.contracts.krasvome_vectors as host_vectors_fn
use Rattle.host.specs.contracts.krasvome_vectors_steps as host_vectors_steps_fn
use Rattle.demands.specs.Operations.{Operation, load, rest, vector, history, list, records, ask, trace, bench, Result, Promised, handed, outcome}

-- what the contract of a sheet's next piece allows
abbrev pub PieceAllowed : Sheet → List ℕ → List ℕ → Written → Type 0
PieceAllowed sheet file page r = r ≡ written (piece_of sheet file) page

-- a claim about the arguments of a function, its result, and what is lent to it at exit
abbrev Claim : Ended → Type 1
Claim T = (κs : Lfts T.signature.lifetimes) → Args T.signature κs → Res T.signature κs → AtExit T κs → Type 0

-- and a claim about its arguments alone
abbrev Question : Ended → Type 1
Question T = (κs : Lfts T.signature.lifetimes) → Args T.signature κs → Type 0

-- in any model of memory and of runs
module _ {M : Type 1} {𝓤 : Ura M} (𝓛 : Logic 𝓤) (mem : Memory → SProp 𝓤) (run : Routine → Fun 𝓤) where
  -- a contract ensures a claim, and that alone. Below, `a.0`, `a.1.0`, .. are the arguments, and `e.0`, `e.1.0`, .. the same at exit
  abbrev pub Promises : (T : Ended) → Clauses 𝓤 T → Claim T → Type 2
  Promises T contract claim = (κs : Lfts T.signature.lifetimes) (a : Args T.signature κs)
      → let c = contract κs a in (g : c.ghost) (r : Res T.signature κs) (e : AtExit T κs) → c.ensures g r e ≡ fact 𝓤 (claim κs a r e)

  pub load_promises : Promises load_fn.ended (load_fn.clauses 𝓛 mem run) (λ κs a r e. Promised a.0.now (load a.1.0.now) (record { answer = r; session = e.0.now }))
  load_promises κs a g r e = refl

  pub rest_promises : Promises rest_fn.ended (rest_fn.clauses 𝓛 mem run) (λ κs a r e. Promised a.0.now (rest a.1.0.now) (record { answer = r; session = e.0.now }))
  rest_promises κs a g r e = refl

  pub vector_promises : Promises vector_fn.ended (vector_fn.clauses 𝓛 mem run) (λ κs a r e. Promised a.0.now (vector Fields a.1.0.now) (record { answer = r; session = e.0.now }))
  vector_promises κs a g r e = refl

  pub steps_promises : Promises steps_fn.ended (steps_fn.clauses 𝓛 mem run) (λ κs a r e. Promised a.0.now (vector Steps a.1.0.now) (record { answer = r; session = e.0.now }))
  steps_promises κs a g r e = refl

  pub history_promises : Promises history_fn.ended (history_fn.clauses 𝓛 mem run) (λ κs a r e. Promised a.0.now (history a.1.0.now a.1.1.0.now a.1.1.1.0.now)
      (record { answer = r; words = e.1.0.now; befores = e.1.1.0.now; flags = e.1.1.1.0.now }))
  history_promises κs a g r e = refl

  pub list_promises : Promises list_fn.ended (list_fn.clauses 𝓛 mem run) (λ κs a r e. Promised a.0.now (list a.1.0.now a.1.1.0.now) (record { answer = r; nets = e.1.0.now; times = e.1.1.0.now }))
  list_promises κs a g r e = refl

  pub records_promises : Promises records_fn.ended (records_fn.clauses 𝓛 mem run) (λ κs a r e. Promised a.0.now (records a.1.0.now) (record { answer = r; room = e.1.0.now }))
  records_promises κs a g r e = refl

  pub ask_promises : Promises ask_fn.ended (ask_fn.clauses 𝓛 mem run) (λ κs a r e. Promised a.0.now (ask a.1.0) r)
  ask_promises κs a g r e = refl

  pub trace_promises : Promises trace_fn.ended (trace_fn.clauses 𝓛 mem run) (λ κs a r e. Promised a.0.now (trace a.1.0 a.1.1.0 a.1.1.1.0.now) (record { answer = r; room = e.1.1.1.0.now }))
  trace_promises κs a g r e = refl

  pub bench_promises : Promises bench_fn.ended (bench_fn.clauses 𝓛 mem run) (λ κs a r e. Promised a.0.now (bench a.1.0.now a.1.1.0.now a.1.1.1.0 a.1.1.1.1.0.now)
      (record { moved = record { answer = r; session = e.0.now }; room = e.1.1.1.1.0.now }))
  bench_promises κs a g r e = refl

  -- the empty session, what is asked of a card as a whole, and the operations that move a session under one name
  pub empty_promises : Promises empty_fn.ended (empty_fn.clauses 𝓛 mem run) (λ κs a r e. r ≡ none)
  empty_promises κs a g r e = refl

  pub depth_promises : Promises depth_fn.ended (depth_fn.clauses 𝓛 mem run) (λ κs a r e. r ≡ depth_asked a.0.now)
  depth_promises κs a g r e = refl

  pub count_promises : Promises count_fn.ended (count_fn.clauses 𝓛 mem run) (λ κs a r e. r ≡ steps_asked a.0.now)
  count_promises κs a g r e = refl

  pub by_promises : Promises by_fn.ended (by_fn.clauses 𝓛 mem run) (λ κs a r e. record { answer = r; session = e.1.0.now } ≡ vector_by a.0 a.1.0.now a.1.1.0.now)
  by_promises κs a g r e = refl

  pub operate_promises : Promises operate_fn.ended (operate_fn.clauses 𝓛 mem run) (λ κs a r e. record { answer = r; session = e.1.0.now } ≡ operated a.0 a.1.0.now a.1.1.0.now)
  operate_promises κs a g r e = refl

  -- a sheet: where it begins, and whether more is to come
  pub begin_promises : Promises begin_fn.ended (begin_fn.clauses 𝓛 mem run) (λ κs a r e. (r ≡ fresh) × Standing r)
  begin_promises κs a g r e = refl

  pub over_promises : Promises over_fn.ended (over_fn.clauses 𝓛 mem run) (λ κs a r e. r ≡ is_over a.0.now.stage)
  over_promises κs a g r e = refl

  -- the next piece of a sheet: the piece and the page; and what it asks of a sheet is kept
  pub next_promises : Promises next_fn.ended (next_fn.clauses 𝓛 mem run) (λ κs a r e.
      PieceAllowed a.0.now a.1.0.now a.1.1.0.now (record { piece = record { sheet = e.0.now; length = r }; page = e.1.1.0.now }) × Standing e.0.now × (r ≤ 20480))
  next_promises κs a g r e = refl

  -- the host's calls: number and count, the session's bytes, and what else is lent
  pub host_load_promises : Promises host_load_fn.ended (host_load_fn.clauses 𝓛 mem run) (λ κs a r e. record { answer = r; bytes = e.0.now } ≡ host_move Load a.0.now a.1.0.now)
  host_load_promises κs a g r e = refl

  pub host_rest_promises : Promises host_rest_fn.ended (host_rest_fn.clauses 𝓛 mem run) (λ κs a r e. record { answer = r; bytes = e.0.now } ≡ host_move Rest a.0.now a.1.0.now)
  host_rest_promises κs a g r e = refl

  pub host_vector_promises : Promises host_vector_fn.ended (host_vector_fn.clauses 𝓛 mem run) (λ κs a r e. record { answer = r; bytes = e.0.now } ≡ host_move (Vector Fields) a.0.now a.1.0.now)
  host_vector_promises κs a g r e = refl

  pub host_steps_promises : Promises host_steps_fn.ended (host_steps_fn.clauses 𝓛 mem run) (λ κs a r e. record { answer = r; bytes = e.0.now } ≡ host_move (Vector Steps) a.0.now a.1.0.now)
  host_steps_promises κs a g r e = refl

  pub host_history_promises : Promises host_history_fn.ended (host_history_fn.clauses 𝓛 mem run) (λ κs a r e.
      record { answer = r; words = e.1.0.now; befores = e.1.1.0.now; flags = e.1.1.1.0.now } ≡ host_history a.0.now a.1.0.now a.1.1.0.now a.1.1.1.0.now)
  host_history_promises κs a g r e = refl

  pub host_vectors_promises : Promises host_vectors_fn.ended (host_vectors_fn.clauses 𝓛 mem run) (λ κs a r e.
      record { answer = r; bytes = e.0.now; words = e.1.1.0.now } ≡ host_vectors Fields a.0.now a.1.0.now a.1.1.0.now)
  host_vectors_promises κs a g r e = refl

  pub host_vectors_steps_promises : Promises host_vectors_steps_fn.ended (host_vectors_steps_fn.clauses 𝓛 mem run) (λ κs a r e.
      record { answer = r; bytes = e.0.now; words = e.1.1.0.now } ≡ host_vectors Steps a.0.now a.1.0.now a.1.1.0.now)
  host_vectors_steps_promises κs a g r e = refl

  -- What a contract requires: a claim about the arguments, or nothing
  abbrev pub Asks : (T : Ended) → Clauses 𝓤 T → Question T → Type 2
  Asks T contract claim = (κs : Lfts T.signature.lifetimes) (a : Args T.signature κs) → let c = contract κs a in (g : c.ghost) → c.requires g ≡ fact 𝓤 (claim κs a)

  abbrev pub AsksNone : (T : Ended) → Clauses 𝓤 T → Type 2
  AsksNone T contract = (κs : Lfts T.signature.lifetimes) (a : Args T.signature κs) → let c = contract κs a in (g : c.ghost) → c.requires g ≡ emp 𝓤

  -- "A contract may ask of it the rule that the empty one is shown to meet and every operation to keep, and asks nothing else of its caller." That rule is `Good`, or its part
  -- about the card, `Carded`; of a sheet `Standing`. The empty session, load, the beginning and the end of a sheet, and the host's calls ask nothing at all
  pub record AsksNothing : Type 2 where
    pub empty : AsksNone empty_fn.ended (empty_fn.clauses 𝓛 mem run)
    pub load : AsksNone load_fn.ended (load_fn.clauses 𝓛 mem run)
    pub rest : Asks rest_fn.ended (rest_fn.clauses 𝓛 mem run) (λ κs a. Good a.0.now)
    pub vector : Asks vector_fn.ended (vector_fn.clauses 𝓛 mem run) (λ κs a. Good a.0.now)
    pub steps : Asks steps_fn.ended (steps_fn.clauses 𝓛 mem run) (λ κs a. Good a.0.now)
    pub vector_by_lem : Asks by_fn.ended (by_fn.clauses 𝓛 mem run) (λ κs a. Good a.1.0.now)
    pub operate : Asks operate_fn.ended (operate_fn.clauses 𝓛 mem run) (λ κs a. Good a.1.0.now)
    pub history : Asks history_fn.ended (history_fn.clauses 𝓛 mem run) (λ κs a. Good a.0.now)
    pub list : Asks list_fn.ended (list_fn.clauses 𝓛 mem run) (λ κs a. Good a.0.now)
    pub records : Asks records_fn.ended (records_fn.clauses 𝓛 mem run) (λ κs a. Good a.0.now)
    pub ask : Asks ask_fn.ended (ask_fn.clauses 𝓛 mem run) (λ κs a. Carded a.0.now)
    pub depth : Asks depth_fn.ended (depth_fn.clauses 𝓛 mem run) (λ κs a. Carded a.0.now)
    pub step_count : Asks count_fn.ended (count_fn.clauses 𝓛 mem run) (λ κs a. Carded a.0.now)
    pub trace : Asks trace_fn.ended (trace_fn.clauses 𝓛 mem run) (λ κs a. Good a.0.now)
    pub bench : Asks bench_fn.ended (bench_fn.clauses 𝓛 mem run) (λ κs a. Good a.0.now)
    pub begin : AsksNone begin_fn.ended (begin_fn.clauses 𝓛 mem run)
    pub next : Asks next_fn.ended (next_fn.clauses 𝓛 mem run) (λ κs a. Standing a.0.now)
    pub is_over_lem : AsksNone over_fn.ended (over_fn.clauses 𝓛 mem run)
    pub host_load : AsksNone host_load_fn.ended (host_load_fn.clauses 𝓛 mem run)
    pub host_rest : AsksNone host_rest_fn.ended (host_rest_fn.clauses 𝓛 mem run)
    pub host_vector : AsksNone host_vector_fn.ended (host_vector_fn.clauses 𝓛 mem run)
    pub host_steps : AsksNone host_steps_fn.ended (host_steps_fn.clauses 𝓛 mem run)
    pub host_history_lem : AsksNone host_history_fn.ended (host_history_fn.clauses 𝓛 mem run)
    pub host_vectors_lem : AsksNone host_vectors_fn.ended (host_vectors_fn.clauses 𝓛 mem run)
    pub host_vectors_steps : AsksNone host_vectors_steps_fn.ended (host_vectors_steps_fn.clauses 𝓛 mem run)

  pub asks_nothing : AsksNothing
  asks_nothing = record {
    empty = λ κs a g. refl;
    load = λ κs a g. refl;
    rest = λ κs a g. refl;
    vector = λ κs a g. refl;
    steps = λ κs a g. refl;
    vector_by_lem = λ κs a g. refl;
    operate = λ κs a g. refl;
    history = λ κs a g. refl;
    list = λ κs a g. refl;
    records = λ κs a g. refl;
    ask = λ κs a g. refl;
    depth = λ κs a g. refl;
    step_count = λ κs a g. refl;
    trace = λ κs a g. refl;
    bench = λ κs a g. refl;
    begin = λ κs a g. refl;
    next = λ κs a g. refl;
    is_over_lem = λ κs a g. refl;
    host_load = λ κs a g. refl;
    host_rest = λ κs a g. refl;
    host_vector = λ κs a g. refl;
    host_steps = λ κs a g. refl;
    host_history_lem = λ κs a g. refl;
    host_vectors_lem = λ κs a g. refl;
    host_vectors_steps = λ κs a g. refl;
  }

-- two results that the contract allows for the same session and input are equal: answer, session and lent memory
pub results_equal : (s : Session) (o : Operation) (r r' : Result o) → Promised s o r → Promised s o r' → r ≡ r'
results_equal s o r r' e e' = e ∙ sym e'

-- and what an allowed result hands back is what the demands are stated of
pub result_handed : (s : Session) (o : Operation) (r : Result o) → Promised s o r → handed s o r ≡ outcome s o
result_handed s o r e = ap (handed s o) e

-- the same of a sheet's next piece: text, sheet and lent page
pub pieces_equal : (sheet : Sheet) (file page : List ℕ) (r r' : Written) → PieceAllowed sheet file page r → PieceAllowed sheet file page r' → r ≡ r'
pieces_equal sheet file page r r' e e' = e ∙ sym e'

-- and of the host's calls: number, count, the session's bytes and what else is lent
pub calls_equal : (how : Move) (b v : List ℕ) (r r' : Hosted) → r ≡ host_move how b v → r' ≡ host_move how b v → r ≡ r'
calls_equal how b v r r' e e' = e ∙ sym e'

pub shown_equal : (b words befores flags : List ℕ) (r r' : Shown) → r ≡ host_history b words befores flags → r' ≡ host_history b words befores flags → r ≡ r'
shown_equal b words befores flags r r' e e' = e ∙ sym e'

pub many_equal : (engine : Engine) (b vs room : List ℕ) (r r' : ManyShown) → r ≡ host_vectors engine b vs room → r' ≡ host_vectors engine b vs room → r ≡ r'
many_equal engine b vs room r r' e e' = e ∙ sym e'
