-- The start of a pass: a constant's value, the inputs' words, and that a vector's bytes reach the inputs and nothing else. Assumes nothing.
use mathlib.Core.Path.{◌≡◌, refl, sym, ap, ◌∙◌}
use mathlib.Core.Bool.{false, not, cond}
use mathlib.Core.List.{List}
use Prim.Native.Nat.{ℕ, zero, suc, ◌+◌, ◌^◌, ◌≤◌, ◌<◌}
use native.Mathlib.Omega.{arith}
use native.Mathlib.Decide.{ℕ_discrete}
use native.Mathlib.Numerals.{add-one}
use lib.Dec.{eqb}
use lib.ListN.{length, get_or, set, length-set}
use lib.Seq.{get_or-set_same, get_or-set_other}
use borrow.Author.Tests.{eq-eqb, ne_eqb}
use Rattle.lists.specs.Listed.{listed}
use Rattle.lists.proofs.Listed.{set_all, is_listed}
use Rattle.word.specs.Word.{bit, is_one, word_of}
use Rattle.word.proofs.Words.{is_word}
use Rattle.inputs.specs.Inputs.{is_input_kind, rank, input_nets, given}
use Rattle.inputs.specs.Inner.Starts.{nets_put, byte_word, constant_at}
use Rattle.inputs.proofs.Vectors.{not_zero, rank_below, given_input}
use Rattle.inputs.proofs.Nets.{Ranked, net_at_lem, net_there}

-- a constant's value
pub constant_value : (kind ty : ℕ) → kind ≡ 2 → not (eqb ty 0) ≡ constant_at kind ty
constant_value kind ty e = rw (eq-eqb kind 2 e) (not_zero ty)

pub no_constant : (kind ty : ℕ) → ¬ (kind ≡ 2) → false ≡ constant_at kind ty
no_constant kind ty e = rw (ne_eqb kind 2 e)

-- Inputs' words

module _ (nets : List ℕ) (f : ℕ → ℕ) where
  pub put_none : (words : List ℕ) → words ≡ nets_put nets f 0 words
  unfolding nets_put
  put_none words = refl

  put_next : (words : List ℕ) (j : ℕ) → set (nets_put nets f j words) (get_or nets j 0) (f j) ≡ nets_put nets f (suc j) words
  unfolding nets_put
  put_next words j = refl

  -- one net more
  pub put_more : (words now : List ℕ) (j m r : ℕ) → m ≡ get_or nets j 0 → r ≡ f j → now ≡ nets_put nets f j words → set now m r ≡ nets_put nets f (j + 1) words
  put_more words now j m r e h q = (λ i. set (q i) (e i) (h i)) ∙ put_next words j ∙ ap (λ k. nets_put nets f k words) (sym (add-one j))

  pub length_put : (j : ℕ) (words : List ℕ) → length (nets_put nets f j words) ≡ length words
  unfolding nets_put
  length_put zero words = refl
  length_put (suc j) words = length-set (nets_put nets f j words) (get_or nets j 0) (f j) ∙ length_put j words

  -- what is put and what stood there being below b, all is
  pub put_low : (b : ℕ) → ((j : ℕ) → f j < b) → (words : List ℕ) → ((n : ℕ) → get_or words n 0 < b) → (j n : ℕ) → get_or (nets_put nets f j words) n 0 < b
  unfolding nets_put
  put_low b new words old zero n = old n
  put_low b new words old (suc j) n = set_all (λ w. w < b) (nets_put nets f j words) (get_or nets j 0) (f j) 0 (new j) (put_low b new words old j) n

-- an input's word of its byte
pub byte_word_lem : (v : List ℕ) (j r : ℕ) → r < 2 ^ 64 → ((t : ℕ) → t < 64 → bit r t ≡ not (eqb (get_or v j 0) 0)) → r ≡ byte_word v j
byte_word_lem v j r l h = is_word 64 (λ t. is_one (get_or v j 0)) r l (λ t b. h t b ∙ not_zero (get_or v j 0))

-- words in which the inputs have the values that a vector gives them, at every time
unfoldable pub inputs_put : List ℕ → List ℕ → List ℕ → List ℕ
inputs_put kinds v words = listed (λ n. cond (is_input_kind (get_or kinds n 0)) (word_of 64 (λ t. given kinds v n)) (get_or words n 0)) 256

module _ (kinds words : List ℕ) (long : length words ≡ 256) (f : ℕ → ℕ) where
  abbrev nets : List ℕ
  nets = input_nets kinds 256

  abbrev after : ℕ → List ℕ
  after j = nets_put nets f j words

  room : (j m : ℕ) → m < 256 → m < length (after j)
  room j m l = omega (arith, l, length_put nets f j words, long)

  -- an input whose word was put
  put_in : (j m : ℕ) → j ≤ rank kinds 256 → m < 256 → get_or kinds m 0 ≡ 1 → rank kinds m < j → get_or (after j) m 0 ≡ f (rank kinds m)
  put_in zero m h l e b = absurd (omega arith)
  put_in (suc j) m h l e b =
      let before : rank kinds m < j → get_or (after j) m 0 ≡ f (rank kinds m) = λ x. put_in j m (omega arith) l e x in
      ap (λ xs. get_or xs m 0) (sym (put_next nets f words j)) ∙ go (ℕ_discrete m (get_or nets j 0)) before
    where
      here : Ranked kinds 256 j (get_or nets j 0)
      here = net_there kinds 256 j (omega arith) (omega arith)

      go : Dec (m ≡ get_or nets j 0) → (rank kinds m < j → get_or (after j) m 0 ≡ f (rank kinds m)) → get_or (set (after j) (get_or nets j 0) (f j)) m 0 ≡ f (rank kinds m)
      go (yes q) before =
          let same : rank kinds m ≡ j = ap (rank kinds) q ∙ here.2 in
          ap (λ k. get_or (set (after j) (get_or nets j 0) (f j)) k 0) q ∙ get_or-set_same (after j) (get_or nets j 0) _ 0 (room j (get_or nets j 0) here.0) ∙ ap f (sym same)
      go (no q) before =
          let apart : ¬ (rank kinds m ≡ j) = λ s. q (sym (net_at_lem kinds 256 m (omega arith) l e) ∙ ap (λ k. get_or nets k 0) s) in
          get_or-set_other (after j) (get_or nets j 0) m _ 0 q ∙ before (omega (arith, b, apart))

  -- all others
  put_out : (j m : ℕ) → j ≤ rank kinds 256 → m < 256 → ¬ (get_or kinds m 0 ≡ 1) → get_or (after j) m 0 ≡ get_or words m 0
  put_out zero m h l e = ap (λ xs. get_or xs m 0) (sym (put_none nets f words))
  put_out (suc j) m h l e =
      let here = net_there kinds 256 j (omega arith) (omega arith) in
      ap (λ xs. get_or xs m 0) (sym (put_next nets f words j))
      ∙ get_or-set_other (after j) (get_or nets j 0) m _ 0 (λ q. e (ap (λ k. get_or kinds k 0) q ∙ here.1))
      ∙ put_out j m (omega arith) l e

  -- with the words of all inputs put, nothing else moves
  pub input_put : (k n : ℕ) → k ≡ rank kinds 256 → n < 256 → get_or (nets_put (input_nets kinds 256) f k words) n 0 ≡ cond (is_input_kind (get_or kinds n 0)) (f (rank kinds n)) (get_or words n 0)
  input_put k n size l = go (ℕ_discrete (get_or kinds n 0) 1)
    where
      go : Dec (get_or kinds n 0 ≡ 1) → get_or (after k) n 0 ≡ cond (is_input_kind (get_or kinds n 0)) (f (rank kinds n)) (get_or words n 0)
      go (yes e) = rw (eq-eqb (get_or kinds n 0) 1 e) (put_in k n (omega (arith, size)) l e (omega (arith, size, rank_below kinds n 256 l e)))
      go (no e) = rw (ne_eqb (get_or kinds n 0) 1 e) (put_out k n (omega (arith, size)) l e)

-- with all bytes of a vector, all inputs have their values
pub nets_put_lem : (kinds v words : List ℕ) → length words ≡ 256 → length v ≡ rank kinds 256 → nets_put (input_nets kinds 256) (byte_word v) (length v) words ≡ inputs_put kinds v words
unfolding inputs_put
nets_put_lem kinds v words long size =
    is_listed (λ n. cond (is_input_kind (get_or kinds n 0)) (word_of 64 (λ t. given kinds v n)) (get_or words n 0)) 256 0 (nets_put (input_nets kinds 256) (byte_word v) (length v) words)
    (length_put (input_nets kinds 256) (byte_word v) (length v) words ∙ long)
    (λ n l. input_put kinds words long (byte_word v) (length v) n size l ∙ at n (ℕ_discrete (get_or kinds n 0) 1))
  where
    at : (n : ℕ) → Dec (get_or kinds n 0 ≡ 1)
        → cond (is_input_kind (get_or kinds n 0)) (byte_word v (rank kinds n)) (get_or words n 0) ≡ cond (is_input_kind (get_or kinds n 0)) (word_of 64 (λ t. given kinds v n)) (get_or words n 0)
    at n (yes e) =
        ap (λ b. cond (is_input_kind (get_or kinds n 0)) (word_of 64 (λ t. b)) (get_or words n 0)) (sym (not_zero (get_or v (rank kinds n) 0)) ∙ given_input kinds v n (rank kinds n) e refl)
    at n (no e) = rw (ne_eqb (get_or kinds n 0) 1 e)
