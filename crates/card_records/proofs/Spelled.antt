-- Bytes that are read as a record are that record written, and what it says is legal. Assumes nothing.
use mathlib.Core.Path.{◌≡◌, refl, sym, ap, ap₂, ◌∙◌, subst}
use mathlib.Core.Bool.{true, true≢false}
use mathlib.Core.List.{List, [], ◌∷◌, ◌++◌}
use Prim.Native.Nat.{ℕ, zero, suc, ◌+◌, ◌*◌, ◌/◌, ◌%◌, ◌≤◌, ◌<◌}
use native.Mathlib.Omega.{arith}
use native.Mathlib.Numerals.{add-one}
use lib.ListN.{length, get_or, drop}
use lib.Seq.{drop-cons}
use borrow.Author.Tests.{ltb-true}
use Rattle.lists.specs.Entries.{◌∈◌, each}
use Rattle.lists.specs.Listed.{listed}
use Rattle.lists.proofs.Listed.{length_listed, listed_none, listed_first, listed_ext, out_listed}
use Rattle.word.specs.Word.{is_one, val}
use Rattle.word.proofs.Bits.{val_is_one}
use Rattle.rule.specs.Net.{Net}
use Rattle.card_wiring.specs.Layout.{kind_of}
use Rattle.std.specs.Prelude.{Ok}
use Rattle.card_records.specs.declared.NetRecord.{NetRecord}
use Rattle.card_records.specs.declared.Record.TheVariants.{End, Net as Netted}
use Rattle.card_records.specs.Bytes.{u16_at, body_fits, type_fits, pin_count, net_record, record_read}
use Rattle.card_records.specs.Scan.{net_meant}
use Rattle.card_records.specs.Written.{two, record_of, body_of, net_bytes, end_bytes, Legal, Bytes}
use Rattle.card_records.proofs.Heads.{KindIs, of_input, of_constant, of_gate, of_end, kind_is, end_length}
use Rattle.card_records.proofs.Found.{Whole, FoundAt, end, net, found_at}
use Rattle.card_records.proofs.Meant.{Meant, meant}

pub length_pins : (ps : List ℕ) → length (each two ps) ≡ 2 * length ps
length_pins [] = refl
length_pins (p ∷ ps) = let h = length_pins ps in omega arith

module _ (s : List ℕ) (bytes : Bytes s) where
  -- Two bytes

  two_at : (i : ℕ) → two (u16_at s i) ≡ get_or s i 0 ∷ get_or s (i + 1) 0 ∷ []
  unfolding u16_at
  two_at i =
      let b = bytes i in
      let low : (get_or s i 0 + 256 * get_or s (i + 1) 0) % 256 ≡ get_or s i 0 = omega arith in
      let high : (get_or s i 0 + 256 * get_or s (i + 1) 0) / 256 ≡ get_or s (i + 1) 0 = omega arith in
      rw (low, high)

  u16_small : (i : ℕ) → u16_at s i < 65536
  unfolding u16_at
  u16_small i = omega (arith, bytes i, bytes (i + 1))

  one_more : (i : ℕ) → i < length s → drop i s ≡ get_or s i 0 ∷ drop (i + 1) s
  one_more i l = drop-cons s i 0 l ∙ ap (λ k. get_or s i 0 ∷ drop k s) (sym (add-one i))

  two_more : (i : ℕ) → i + 1 < length s → drop i s ≡ two (u16_at s i) ++ drop (i + 2) s
  two_more i l =
      let x : i + 1 + 1 ≡ i + 2 = omega arith in
      one_more i (omega arith)
      ∙ ap (λ t. get_or s i 0 ∷ t) (one_more (i + 1) l ∙ ap (λ k. get_or s (i + 1) 0 ∷ drop k s) x)
      ∙ ap (λ t. t ++ drop (i + 2) s) (sym (two_at i))

  -- A gate's pins

  pins_spelled : (start m : ℕ) → start + 2 * m ≤ length s
      → drop start s ≡ each two (listed (λ j. u16_at s (start + 2 * j)) m) ++ drop (start + 2 * m) s
  pins_spelled start zero l = let x : start + 2 * 0 ≡ start = omega arith in rw (listed_none (λ j. u16_at s (start + 2 * j)), x)
  pins_spelled start (suc m) l =
      let x : start + 2 + 2 * m ≡ start + 2 * suc m = omega arith in
      let y : start + 2 * 0 ≡ start = omega arith in
      two_more start (omega arith)
      ∙ ap (λ t. two (u16_at s start) ++ t)
      (pins_spelled (start + 2) m (omega arith) ∙ ap (λ k. each two (listed (λ j. u16_at s (start + 2 + 2 * j)) m) ++ drop k s) x)
      ∙ ap (λ ps. each two ps ++ drop (start + 2 * suc m) s)
      (ap₂ ◌∷◌ (ap (u16_at s) (sym y)) (listed_ext _ _ m later) ∙ sym (listed_first (λ j. u16_at s (start + 2 * j)) m))
    where
      later : (j : ℕ) → j < m → u16_at s (start + 2 + 2 * j) ≡ u16_at s (start + 2 * suc j)
      later j b = let z : start + 2 + 2 * j ≡ start + 2 * suc j = omega arith in ap (u16_at s) z

  pins_small : (start m p : ℕ) → p ∈ listed (λ j. u16_at s (start + 2 * j)) m → p < 65536
  pins_small start m p h = let o = out_listed (λ j. u16_at s (start + 2 * j)) m p h in rw o.2 (u16_small (start + 2 * o.0))

  -- A record

  head_spelled : (at kind len : ℕ) → at + 4 ≤ length s → u16_at s (at + 2) ≡ kind → u16_at s at ≡ len → (body rest : List ℕ) → length body ≡ len
      → drop (at + 4) s ≡ body ++ rest → drop at s ≡ record_of kind body ++ rest
  head_spelled at kind len l ek el body rest long e =
      let x : at + 2 + 2 ≡ at + 4 = omega arith in
      let t : drop (at + 2) s ≡ two (u16_at s (at + 2)) ++ (body ++ rest) = two_more (at + 2) (omega arith) ∙ rw (x, e) in
      let h : drop at s ≡ two (u16_at s at) ++ (two (u16_at s (at + 2)) ++ (body ++ rest)) = two_more at (omega arith) ∙ rw t in
      rw (el ∙ sym long, ek) at h

  -- a body's bytes are a net's
  record Body (at len : ℕ) (w : Net) : Type 0 where
    long : length (body_of w) ≡ len
    body : drop (at + 4) s ≡ body_of w ++ drop (at + 4 + len) s
    legal : Legal w

  body_spelled : (at kind len : ℕ) → Whole (length s) at kind len (get_or s (at + 4) 0) → ¬ (kind ≡ 4)
      → Body at len (net_meant s (net_record kind len (at + 4) (get_or s (at + 4) 0)))
  unfolding net_record net_meant body_fits
  body_spelled at kind len w no_end = go (kind_is kind len w.head) w.inside w.body
    where
      go : KindIs kind len → at + 4 + len ≤ length s → body_fits kind len (get_or s (at + 4) 0) ≡ true
          → Body at len (net_meant s (net_record kind len (at + 4) (get_or s (at + 4) 0)))
      go (of_input e l) inside b =
          let x : at + 4 + 0 ≡ at + 4 = omega arith in
          rw (e, l) record { long = refl; body = ap (λ k. drop k s) (sym x); legal = λ q. absurd (true≢false q) }
      go (of_constant e l) inside b =
          let v : val (is_one (get_or s (at + 4) 0)) ≡ get_or s (at + 4) 0 = val_is_one (get_or s (at + 4) 0) (ltb-true _ 2 (rw e at b)) in
          let body = one_more (at + 4) (omega arith) ∙ ap (λ k. k ∷ drop (at + 4 + 1) s) (sym v) in
          rw (e, l) record { long = refl; body = body; legal = λ q. absurd (true≢false q) }
      go (of_gate e low high o) inside b =
          let m = pin_count len in
          let ps = listed (λ j. u16_at s (at + 4 + 1 + 2 * j)) m in
          let n : length ps ≡ m = length_listed (λ j. u16_at s (at + 4 + 1 + 2 * j)) m in
          let long : length (each two ps) ≡ 2 * length ps = length_pins ps in
          let x : at + 4 + 1 + 2 * m ≡ at + 4 + len = omega arith in
          let fits : type_fits (get_or s (at + 4) 0) m ≡ true = rw e at b in
          rw e record {
            long = omega arith;
            body = one_more (at + 4) (omega arith) ∙ ap (λ t. get_or s (at + 4) 0 ∷ t) (pins_spelled (at + 4 + 1) m (omega arith) ∙ ap (λ k. each two ps ++ drop k s) x);
            legal = λ q. (rw n fits, omega arith, pins_small (at + 4 + 1) m);
          }
      go (of_end e l) inside b = absurd (no_end e)

  pub net_spelled : (at : ℕ) (r : NetRecord) → record_read s at ≡ Ok (Netted r) → (drop at s ≡ net_bytes (net_meant s r) ++ drop r.next s) × Legal (net_meant s r)
  unfolding net_bytes net_record
  net_spelled at r e = go r (meant s at r e) (subst (FoundAt s at) e (found_at s at))
    where
      go : (r : NetRecord) → Meant s r → FoundAt s at (Ok (Netted r)) → (drop at s ≡ net_bytes (net_meant s r) ++ drop r.next s) × Legal (net_meant s r)
      go r known (net w no_end) =
          let len : ℕ = u16_at s at in
          let v : Net = net_meant s (net_record (u16_at s (at + 2)) len (at + 4) (get_or s (at + 4) 0)) in
          let b = body_spelled at (u16_at s (at + 2)) len w no_end in (
            head_spelled at (kind_of v) len (omega (arith, w.inside)) (sym known.kind_of_lem) refl (body_of v) (drop (at + 4 + len) s) b.long b.body,
            b.legal,
          )

  pub end_spelled : (at next : ℕ) → record_read s at ≡ Ok (End next) → (drop at s ≡ end_bytes ++ drop next s) × (next ≤ length s)
  end_spelled at next e = go next (subst (FoundAt s at) e (found_at s at))
    where
      go : (next : ℕ) → FoundAt s at (Ok (End next)) → (drop at s ≡ end_bytes ++ drop next s) × (next ≤ length s)
      go next (end w e) =
          let none : u16_at s at ≡ 0 = end_length (u16_at s (at + 2)) (u16_at s at) w.head e in
          let there : at + 4 ≤ length s = omega (arith, w.inside) in
          (head_spelled at 4 0 there e none [] (drop (at + 4) s) refl refl, there)
