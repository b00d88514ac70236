-- Many vectors, one after another: the places of their bytes and words, and one vector more. Assumes nothing.
use mathlib.Core.Path.{◌≡◌, refl, sym, ap, ap₂, ◌∙◌, subst}
use mathlib.Core.Bool.{Bool, true, false, cond}
use mathlib.Core.List.{List}
use Prim.Native.Nat.{ℕ, zero, suc, ◌+◌, ◌-◌, ◌*◌, ◌/◌, ◌%◌, ◌<◌, ◌≤◌}
use native.Mathlib.Nat.{le-div_iff_mul-le, div-lt_iff_lt-mul}
use native.Mathlib.Omega.{arith}
use lib.Dec.{eqb, leb}
use lib.ListN.{length, get_or, take, drop}
use borrow.Author.Tests.{eq-eqb, ne_eqb, lt-leb, le-leb, leb-true, ltb-true}
use Rattle.lists.specs.Entries.{◌∈◌, every}
use Rattle.lists.specs.Listed.{listed}
use Rattle.lists.specs.Places.{part, area}
use Rattle.lists.proofs.Tests.{every_at}
use Rattle.lists.proofs.Order.{at_in}
use Rattle.lists.proofs.Listed.{length_listed, out_listed}
use Rattle.lists.proofs.Places.{turn_next, turn_fits, place_fits, place_part, length_area, part_listed}
use Rattle.rule.specs.Steps.{step_list}
use Rattle.rule.specs.Numbers.{answer_count}
use Rattle.rule.specs.declared.Refusal.TheVariants.{NotReady, VectorLength, VectorByte, NoRoom}
use Rattle.std.specs.Prelude.{Ok, Err}
use Rattle.inputs.specs.Allowed.{byte_limit, Vector}
use Rattle.inputs.specs.Inputs.{byte_fits, given}
use Rattle.fields.specs.Inner.Fields.{advanced}
use Rattle.card.specs.declared.Session.{Session}
use Rattle.card.specs.Session.{card_of}
use Rattle.card.specs.Held.{HasCard}
use Rattle.session.specs.Good.{Good, Rested}
use Rattle.session.specs.Moves.{moved_by, vector_of}
use Rattle.session.proofs.Moving.{words_long, words_move}
use Rattle.session.proofs.SameCard.{SameCard, same_card, moved_same}
use Rattle.session.proofs.Refusals.{vector_takes}
use Rattle.step_run.specs.Vector.{ran_session, steps_vector_of}
use Rattle.step_run.specs.Inner.Runs.{stepped}
use Rattle.step_run.proofs.Vectors.{stepped_run, steps_takes}
use Rattle.operations.specs.declared.Engine.{Engine}
use Rattle.operations.specs.declared.Engine.TheVariants.{Fields, Steps}
use Rattle.operations.specs.Operated.{vector_by}
use Rattle.operations.proofs.Engines.{same_session, by_good, count_by, by_takes}
use Rattle.host_many.specs.Inner.Words.{words_by}
use Rattle.host_many.specs.Many.{many_by, many_judged, kept_at, kept_many}

-- one vector more
pub many_more : (engine : Engine) (s : Session) (vs : List ℕ) (n j : ℕ) (room : List ℕ)
    → many_by engine s vs n (j + 1) room
    ≡ (let ran = many_by engine s vs n j room in
    let next = vector_by engine ran.session (part vs (j * n) n) in
    record { session = next.session; count = answer_count next.answer; words = area ran.words (j * s.nets) (j * s.nets + s.nets) next.session.words })
unfolding many_by
many_more engine s vs n j room = let e : j + 1 ≡ suc j = omega arith in ap (λ k. many_by engine s vs n k room) e ∙ step
  where
    step : many_by engine s vs n (suc j) room
        ≡ (let ran = many_by engine s vs n j room in
        let next = vector_by engine ran.session (part vs (j * n) n) in
        record { session = next.session; count = answer_count next.answer; words = area ran.words (j * s.nets) (j * s.nets + s.nets) next.session.words })
    step = refl

pub many_length : (engine : Engine) (s : Session) (vs : List ℕ) (n k : ℕ) (room : List ℕ) → length (many_by engine s vs n k room).words ≡ length room
unfolding many_by
many_length engine s vs n zero room = refl
many_length engine s vs n (suc k) room = length_area _ _ _ _ ∙ many_length engine s vs n k room

-- a good session is left, whatever the bytes
pub many_good : (engine : Engine) (s : Session) → Good s → (vs : List ℕ) (n k : ℕ) (room : List ℕ) → Good (many_by engine s vs n k room).session
unfolding many_by
many_good engine s g vs n zero room = g
many_good engine s g vs n (suc k) room = by_good engine (many_by engine s vs n k room).session (many_good engine s g vs n k room) (part vs (k * n) n)

-- a vector's bytes, of many that fit
pub many_vector : (vs : List ℕ) (n j : ℕ) → every byte_fits vs ≡ true → j * n + n ≤ length vs → Vector n (part vs (j * n) n)
many_vector vs n j fits l = record { size = ap length is ∙ length_listed byte n; bits = bits }
  where
    byte : ℕ → ℕ
    byte i = get_or vs (j * n + i) 0

    is : part vs (j * n) n ≡ listed byte n
    is = part_listed vs (j * n) n l

    bits : (b : ℕ) → b ∈ part vs (j * n) n → b < byte_limit
    bits b m =
        let o = out_listed byte n b (subst (λ xs. b ∈ xs) is m) in
        let i = o.0 in
        let low = ltb-true (byte i) byte_limit (every_at byte_fits vs fits (byte i) (at_in vs (j * n + i) 0 (omega (arith, o.1)))) in
        omega (arith, o.2, low)

-- One turn of a loop over many: with its bytes from place x on and its words from y on, vector j's bytes and the room for its words are there
pub record Turn (s : Session) (vs : List ℕ) (room j x y : ℕ) : Type 0 where
  pub bytes_fit : j * s.inputs + s.inputs ≤ length vs
  pub bytes_there : x + s.inputs ≤ length vs
  pub words_there : y + s.nets ≤ room
  pub bytes_are : take (x + s.inputs - x) (drop x vs) ≡ part vs (j * s.inputs) s.inputs

pub turn_has : (s : Session) (vs : List ℕ) (room k j x y : ℕ) → x ≡ j * s.inputs → y ≡ j * s.nets → j < k → k * s.inputs ≤ length vs → k * s.nets ≤ room → Turn s vs room j x y
turn_has s vs room k j x y ex ey b lb lw = record {
  bytes_fit = turn_fits j k s.inputs (length vs) b lb;
  bytes_there = place_fits j s.inputs x ex k (length vs) b lb;
  words_there = place_fits j s.nets y ey k room b lw;
  bytes_are = place_part j s.inputs x ex vs;
}

-- Many vectors that fit, on a rested session: it keeps its card

module _ (engine : Engine) (s : Session) (g : Good s) (r : s.rested ≡ true) (vs room : List ℕ) (fits : every byte_fits vs ≡ true) where
  abbrev left : ℕ → Session
  left j = (many_by engine s vs s.inputs j room).session

  abbrev bytes : ℕ → List ℕ
  bytes j = part vs (j * s.inputs) s.inputs

  pub record Left (z : Session) : Type 0 where
    pub good : Good z
    pub same : SameCard s true z

  -- a session so left takes a vector that fits
  left_takes : (z : Session) → Left z → (v : List ℕ) → Vector s.inputs v
      → vector_by engine z v ≡ record { answer = Ok (count_by engine z); session = moved_by z (given z.kinds v) }
  left_takes z h v w = by_takes engine z h.good h.same.rests v (subst (λ x. Vector x.inputs v) (sym h.same.card) w)

  next_left : (z : Session) → Left z → (v : List ℕ) → Vector s.inputs v → Left (vector_by engine z v).session
  next_left z h v w =
      let e = ap (λ x. x.session) (left_takes z h v w) in
      record { good = by_good engine z h.good v; same = subst (SameCard s true) (sym e) (moved_same s true z h.same (given z.kinds v)) }

  next_fits : (j : ℕ) → suc j * s.inputs ≤ length vs → j * s.inputs + s.inputs ≤ length vs
  next_fits j l = let e : j + 1 ≡ suc j = omega arith in omega (arith, turn_next j s.inputs, ap (λ k. k * s.inputs) e, l)

  pub many_left : (j : ℕ) → j * s.inputs ≤ length vs → Left (left j)
  unfolding many_by
  many_left zero l = record { good = g; same = record { rests = r; card = refl } }
  many_left (suc j) l =
      let l' = next_fits j l in
      next_left (left j) (many_left j (omega (arith, l'))) (bytes j) (many_vector vs s.inputs j fits l')

  -- it has a card and a rest
  left_held : (j : ℕ) → j * s.inputs ≤ length vs → HasCard (left j) × Rested (left j)
  left_held j l =
      let g = (many_left j l).good in
      let held = g.rest (many_left j l).same.rests in
      (g.card held.0, held.1)

  pub left_long : (j : ℕ) → j * s.inputs ≤ length vs → length (left j).words ≡ 256
  left_long j l = let h = left_held j l in words_long (left j) h.0 h.1

  -- what vector j finds: a session with the same card, its rest, and bytes that fit it
  pub record Found (z : Session) (v : List ℕ) : Type 0 where
    pub same : SameCard s true z
    pub card : HasCard z
    pub rest : Rested z
    pub vector : Vector z.inputs v

  pub found : (j : ℕ) → j * s.inputs + s.inputs ≤ length vs → Found (left j) (bytes j)
  found j l =
      let below : j * s.inputs ≤ length vs = omega (arith, l) in
      let same = (many_left j below).same in
      let h = left_held j below in
      record { same = same; card = h.0; rest = h.1; vector = subst (λ x. Vector x.inputs (bytes j)) (sym same.card) (many_vector vs s.inputs j fits l) }

  -- each vector is done, with the count that the card has by the engine
  next_count : (j : ℕ) → j * s.inputs + s.inputs ≤ length vs → (vector_by engine (left j) (bytes j)).answer ≡ Ok (count_by engine s)
  next_count j l =
      let h = many_left j (omega (arith, l)) in
      ap (λ m. m.answer) (left_takes (left j) h (bytes j) (many_vector vs s.inputs j fits l)) ∙ ap Ok (by engine h)
    where
      by : (e : Engine) → Left (left j) → count_by e (left j) ≡ count_by e s
      by Fields h = refl
      by Steps h = ap (λ c. length (step_list c)) (same_card s true (left j) h.same)

  ran_count : (k : ℕ) → suc k * s.inputs ≤ length vs → (many_by engine s vs s.inputs (suc k) room).count ≡ count_by engine s
  unfolding many_by
  ran_count k l = ap answer_count (next_count k (next_fits k l))

  -- so the count of many is that of every one of them
  pub each_count : (k j : ℕ) → j < k → k * s.inputs ≤ length vs → (vector_by engine (left j) (bytes j)).answer ≡ Ok (many_by engine s vs s.inputs k room).count
  each_count zero j b l = absurd (omega arith)
  each_count (suc k) j b l = next_count j (turn_fits j (suc k) s.inputs (length vs) b l) ∙ ap Ok (sym (ran_count k l))

  -- by either engine the same sessions and words
  pub many_same : (k : ℕ) → k * s.inputs ≤ length vs
      → (left k ≡ (many_by Fields s vs s.inputs k room).session) × ((many_by engine s vs s.inputs k room).words ≡ (many_by Fields s vs s.inputs k room).words)
  unfolding many_by
  many_same zero l = (refl, refl)
  many_same (suc k) l =
      let l' = next_fits k l in
      let so_far = many_same k (omega (arith, l')) in
      let next = same_session engine (left k) (many_left k (omega (arith, l'))).good (bytes k) ∙ ap (λ z. (vector_of z (bytes k)).session) so_far.0 in
      (next, (λ i. area (so_far.1 i) (k * s.nets) (k * s.nets + s.nets) (next i).words))

-- The words alone go from one vector to the next

module _ (s : Session) (g : Good s) (r : s.rested ≡ true) (vs room : List ℕ) (fits : every byte_fits vs ≡ true) where
  -- by fields
  pub next_words : (j : ℕ) → j * s.inputs + s.inputs ≤ length vs
      → (let z = (many_by Fields s vs s.inputs j room).session in
      let v = part vs (j * s.inputs) s.inputs in
      advanced s.feeds s.types s.counts s.places (listed (λ i. get_or s.order i 0) s.gates) z.words v ≡ (vector_of z v).session.words)
  next_words j l =
      let z = (many_by Fields s vs s.inputs j room).session in
      let v = part vs (j * s.inputs) s.inputs in
      let f = found Fields s g r vs room fits j l in
      sym (ap (λ x. advanced x.feeds x.types x.counts x.places (listed (λ i. get_or x.order i 0) x.gates) z.words v) f.same.card)
      ∙ words_move z f.card f.rest v f.vector.size
      ∙ sym (ap (λ m. m.session.words) (vector_takes z v f.same.rests f.vector))

  -- by steps, with the count
  pub next_stepped : (j : ℕ) → j * s.inputs + s.inputs ≤ length vs
      → (let z = (many_by Steps s vs s.inputs j room).session in
      let v = part vs (j * s.inputs) s.inputs in
      let m = steps_vector_of z v in
      stepped s.feeds s.types s.counts s.places s.sets (step_list (card_of s)) z.words v ≡ record { words = m.session.words; count = answer_count m.answer })
  unfolding ran_session
  next_stepped j l =
      let z = (many_by Steps s vs s.inputs j room).session in
      let v = part vs (j * s.inputs) s.inputs in
      let f = found Steps s g r vs room fits j l in
      sym (ap (λ x. stepped x.feeds x.types x.counts x.places x.sets (step_list (card_of s)) z.words v) f.same.card)
      ∙ ap (λ c. stepped z.feeds z.types z.counts z.places z.sets (step_list c) z.words v) (sym (same_card s true z f.same))
      ∙ stepped_run z f.card v f.vector.size (step_list (card_of z))
      ∙ sym (ap (λ m. record { words = m.session.words; count = answer_count m.answer }) (steps_takes z v f.same.rests f.vector))

  -- by either engine, with its count
  pub next_by : (engine : Engine) (j : ℕ) → j * s.inputs + s.inputs ≤ length vs
      → (let z = (many_by engine s vs s.inputs j room).session in
      let v = part vs (j * s.inputs) s.inputs in
      let m = vector_by engine z v in
      words_by engine s z.words v ≡ record { words = m.session.words; count = answer_count m.answer })
  next_by Fields j l =
      let z = (many_by Fields s vs s.inputs j room).session in
      let v = part vs (j * s.inputs) s.inputs in
      let f = found Fields s g r vs room fits j l in
      let counted : 0 ≡ answer_count (vector_of z v).answer = sym (ap (λ m. answer_count m.answer) (vector_takes z v f.same.rests f.vector)) in
      λ i. record { words = next_words j l i; count = counted i }
  next_by Steps j l = next_stepped j l

  -- by fields the count is 0
  pub fields_count : (k : ℕ) → k * s.inputs ≤ length vs → (many_by Fields s vs s.inputs k room).count ≡ 0
  unfolding many_by
  fields_count zero l = refl
  fields_count (suc k) l = ran_count Fields s g r vs room fits k l

-- What is kept

pub kept_none : (e : Engine) (b vs : List ℕ) (n k : ℕ) → k ≡ 0 → b ≡ kept_many e b vs n k
unfolding kept_many
kept_none e b vs n k q = ap (kept_many e b vs n) (sym q)

pub kept_one : (e : Engine) (b vs : List ℕ) (n k : ℕ) → k ≡ 1 → kept_at e b vs n 0 ≡ kept_many e b vs n k
unfolding kept_many
kept_one e b vs n k q = ap (kept_many e b vs n) (sym q)

pub kept_two : (e : Engine) (b vs : List ℕ) (n k : ℕ) → ¬ (k ≡ 0) → ¬ (k ≡ 1) → kept_at e (kept_at e b vs n (k - 2)) vs n (k - 1) ≡ kept_many e b vs n k
unfolding kept_many
kept_two e b vs n zero x y = absurd (x refl)
kept_two e b vs n (suc zero) x y = absurd (y refl)
kept_two e b vs n (suc (suc k)) x y =
    let two : suc (suc k) - 2 ≡ k = omega arith in
    let one : suc (suc k) - 1 ≡ suc k = omega arith in
    ap₂ (λ i j. kept_at e (kept_at e b vs n i) vs n j) two one

-- The judgement

module _ (s : Session) (vs : List ℕ) (room : ℕ) where
  abbrev count : ℕ
  count = length vs / s.inputs

  pub many_12 : s.rested ≡ false → Err NotReady ≡ many_judged s vs room
  unfolding many_judged
  many_12 e = rw e

  pub many_10 : s.rested ≡ true → ¬ (length vs % s.inputs ≡ 0) → Err VectorLength ≡ many_judged s vs room
  unfolding many_judged
  many_10 e n = rw (e, ne_eqb (length vs % s.inputs) 0 n)

  pub many_11 : s.rested ≡ true → length vs % s.inputs ≡ 0 → every byte_fits vs ≡ false → Err VectorByte ≡ many_judged s vs room
  unfolding many_judged
  many_11 e z f = rw (e, eq-eqb (length vs % s.inputs) 0 z, f)

  pub many_18 : s.rested ≡ true → length vs % s.inputs ≡ 0 → every byte_fits vs ≡ true → 0 < s.nets → room / s.nets < count → Err NoRoom ≡ many_judged s vs room
  unfolding many_judged
  many_18 e z f p l =
      let much : room < count * s.nets = (div-lt_iff_lt-mul p).0 l in
      rw (e, eq-eqb (length vs % s.inputs) 0 z, f, lt-leb (count * s.nets) room much)

  pub many_0 : s.rested ≡ true → length vs % s.inputs ≡ 0 → every byte_fits vs ≡ true → 0 < s.nets → count ≤ room / s.nets → Ok count ≡ many_judged s vs room
  unfolding many_judged
  many_0 e z f p l =
      let fits : count * s.nets ≤ room = (le-div_iff_mul-le p).0 l in
      rw (e, eq-eqb (length vs % s.inputs) 0 z, f, le-leb (count * s.nets) room fits)

  -- what a judgement that is done says
  pub many_asks : (k : ℕ) → many_judged s vs room ≡ Ok k → (s.rested ≡ true) × (every byte_fits vs ≡ true) × (k ≡ count) × (k * s.nets ≤ room)
  unfolding many_judged
  many_asks k e = go s.rested refl (eqb (length vs % s.inputs) 0) (every byte_fits vs) refl (leb (count * s.nets) room) refl e
    where
      go : (x : Bool) → s.rested ≡ x → (y z : Bool) → every byte_fits vs ≡ z → (w : Bool) → leb (count * s.nets) room ≡ w
          → cond x (cond y (cond z (cond w (Ok count) (Err NoRoom)) (Err VectorByte)) (Err VectorLength)) (Err NotReady) ≡ Ok k
          → (s.rested ≡ true) × (every byte_fits vs ≡ true) × (k ≡ count) × (k * s.nets ≤ room)
      go true r true true f true q d = let h : k ≡ count = cc in (r, f, h, rw h (leb-true (count * s.nets) room q))
      go true r true true f false q d = let z : ◌≡◌ {A = ℕ} 0 1 = cc in absurd (omega arith)
      go true r true false f w q d = let z : ◌≡◌ {A = ℕ} 0 1 = cc in absurd (omega arith)
      go true r false z f w q d = let z : ◌≡◌ {A = ℕ} 0 1 = cc in absurd (omega arith)
      go false r y z f w q d = let z : ◌≡◌ {A = ℕ} 0 1 = cc in absurd (omega arith)
