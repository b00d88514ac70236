-- Every row of the table holds: a test that is worked out over the whole table, and what passes it is so. Assumes nothing.
use mathlib.Core.Path.{◌≡◌, refl, sym, ap₂}
use mathlib.Core.Bool.{Bool, true, false, ◌&&◌, true≢false}
use mathlib.Core.List.{List, [], ◌∷◌, map}
use Prim.Native.Nat.{ℕ}
use lib.Dec.{eqb}
use borrow.Author.Tests.{eqb-true}
use Rattle.lists.specs.Entries.{◌∈◌, every}
use Rattle.lists.specs.Listed.{listed, listed_from}
use Rattle.lists.proofs.Bools.{and_both}
use Rattle.lists.proofs.Tests.{every_at}
use Rattle.word.specs.Word.{bit, word_of}
use Rattle.word.specs.Times.{count, greatest}
use Rattle.gate.specs.Gate.{gate, controls, inverts, controlled}
use Rattle.rule.specs.Net.{open_pin, open_value, at_pin, net_at}
use Rattle.rule.specs.Rule.{value}
use Rattle.rule.specs.Flag.{changes, flag_of}
use Rattle.rule.specs.Cause.{causes}
use Rattle.rule.specs.Chain.{pc_set}
use Rattle.rule.specs.Level.{longest, level, depth}
use Rattle.rule.specs.Run.{made, step, run, ready}
use Rattle.rule.specs.Steps.{read_at as read_step, step_reads, gate_order, net_steps, step_list}
use Rattle.card_wiring.specs.Layout.{kinds_of, types_of, counts_of, places_of, card_in}
use Rattle.card_wiring.specs.Wired.{pins_fit, most_back, wired_of, set_words}
use Rattle.inputs.specs.Inputs.{rank, input_nets, given, vector_fits, vector_judged}
use Rattle.card_records.specs.Bytes.{u16_at, kind_fits, type_fits, body_fits, net_record, record_at, record_read}
use Rattle.card_records.specs.Scan.{net_meant, scan}
use Rattle.card_records.specs.Written.{net_bytes, card_bytes}
use Rattle.card.specs.Session.{none, inputs_of, session_of, card_of}
use Rattle.card.specs.Load.{judged, load_of}
use Rattle.card.specs.Asked.{net_asked}
use Rattle.session.specs.Good.{histories}
use Rattle.session.specs.Moves.{ends, moved_by, vector_of, settled, rested_by, rest_of}
use Rattle.history.specs.Told.{history_of}
use Rattle.trace.specs.Traced.{way_back, trace_of}
use Rattle.step_vars.specs.Variables.{held_in, words_of, read_in, step_in, history_word, histories_from}
use Rattle.step_orders.specs.Orders.{entries_fit, order_ready, order_judged}
use Rattle.step_list.specs.Listing.{list_of}
use Rattle.step_run.specs.Runs.{ran}
use Rattle.step_run.specs.Vector.{start_vars, ran_along, ran_session, steps_vector_of}
use Rattle.bench.specs.Bench.{not_done, bench_done, bench_of}
use Rattle.text.specs.Text.{digits_in, decimal}
use Rattle.sheet_text.specs.Lines.{refused_line, first_line, values, net_line, card_text, history_line, vector_text}
use Rattle.sheet_text.specs.Walk.{end_from, card_end, entry_in, entry_at}
use Rattle.sheet_text.specs.Sheet.{records_text, loaded_text, sheet_of}
use Rattle.operations.specs.declared.Engine.{Engine}
use Rattle.operations.specs.declared.Engine.TheVariants.{Fields, Steps}
use Rattle.examples.specs.Calls.{Call, Reply, replies}
use Rattle.examples.specs.Table.{Line, table}

-- two lists are the same, by a test of their entries
abbrev same_by : {A : Type 0} → (A → A → Bool) → List A → List A → Bool
same_by f [] [] = true
same_by f [] (y ∷ ys) = false
same_by f (x ∷ xs) [] = false
same_by f (x ∷ xs) (y ∷ ys) = f x y && same_by f xs ys

same_by_lem : {A : Type 0} (f : A → A → Bool) → ((x y : A) → f x y ≡ true → x ≡ y) → (xs ys : List A) → same_by f xs ys ≡ true → xs ≡ ys
same_by_lem f h [] [] e = refl
same_by_lem f h [] (y ∷ ys) e = absurd (true≢false (sym e))
same_by_lem f h (x ∷ xs) [] e = absurd (true≢false (sym e))
same_by_lem f h (x ∷ xs) (y ∷ ys) e = let b = and_both (f x y) _ e in ap₂ (λ a l. a ∷ l) (h x y b.0) (same_by_lem f h xs ys b.1)

abbrev same_rooms : List (List ℕ) → List (List ℕ) → Bool
same_rooms xs ys = same_by (same_by eqb) xs ys

abbrev same_reply : Reply → Reply → Bool
same_reply a b =
    eqb a.number b.number && (eqb a.count b.count && (eqb a.level b.level && (eqb a.word b.word && same_rooms a.rooms b.rooms)))

reply_same : (a b : Reply) → same_reply a b ≡ true → a ≡ b
reply_same a b e =
    let x = and_both (eqb a.number b.number) _ e in
    let y = and_both (eqb a.count b.count) _ x.1 in
    let z = and_both (eqb a.level b.level) _ y.1 in
    let u = and_both (eqb a.word b.word) _ z.1 in
    let n = eqb-true a.number b.number x.0 in
    let c = eqb-true a.count b.count y.0 in
    let l = eqb-true a.level b.level z.0 in
    let w = eqb-true a.word b.word u.0 in
    let r = same_by_lem (same_by eqb) (same_by_lem eqb eqb-true) a.rooms b.rooms u.1 in
    λ i. record { number = n i; count = c i; level = l i; word = w i; rooms = r i }

-- the calls of a row, and what they must hand back
abbrev pub calls : List Line → List Call
calls row = map (λ l. l.call) row

abbrev pub expected : List Line → List Reply
expected row = map (λ l. l.reply) row

-- the test of a row, from the empty session
passes : List Line → Bool
passes row = same_by same_reply (replies none (calls row)) (expected row)

all_pass : every passes (table Fields) && every passes (table Steps) ≡ true
unfolding passes table replies card_bytes net_bytes u16_at kind_fits type_fits body_fits net_record record_at record_read net_meant scan listed listed_from load_of judged none session_of wired_of pins_fit most_back open_pin at_pin net_at longest level depth gate_order net_steps step_list pc_set set_words inputs_of count rest_of vector_fits vector_judged input_nets rested_by settled given rank value gate controls inverts controlled card_of card_in kinds_of types_of counts_of places_of open_value word_of bit vector_of moved_by histories ends history_of flag_of changes causes way_back trace_of net_asked list_of steps_vector_of ran_session ran_along start_vars ran step_in read_in words_of held_in history_word histories_from greatest made step run ready read_step step_reads entries_fit order_ready order_judged not_done bench_done bench_of digits_in decimal refused_line first_line values net_line card_text history_line vector_text end_from card_end entry_in entry_at records_text loaded_text sheet_of
all_pass = refl

-- each example's sentence: the calls of its row hand back what the row says, by either engine
pub row_holds : (e : Engine) (row : List Line) → row ∈ table e → replies none (calls row) ≡ expected row
unfolding passes
row_holds e row m = same_by_lem same_reply reply_same _ _ (every_at passes (table e) (by_engine e) row m)
  where
    by_engine : (e : Engine) → every passes (table e) ≡ true
    by_engine Fields = (and_both (every passes (table Fields)) _ all_pass).0
    by_engine Steps = (and_both (every passes (table Fields)) _ all_pass).1
