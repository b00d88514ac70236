-- A record that is written is read again: a legal net's as that net, the end's as the end. Assumes nothing.
use mathlib.Core.Path.{◌≡◌, refl, sym, ap, ◌∙◌}
use mathlib.Core.Bool.{true}
use mathlib.Core.List.{List, [], ◌∷◌, ◌++◌}
use Prim.Native.Nat.{ℕ, zero, suc, ◌+◌, ◌-◌, ◌*◌, ◌≤◌, ◌<◌}
use native.Mathlib.Omega.{arith}
use lib.ListN.{length, get_or, drop, length-append, length-drop}
use lib.Seq.{drop-drop, get_or-drop, drop-append_seam}
use borrow.Author.Tests.{lt-ltb}
use Rattle.lists.specs.Entries.{each}
use Rattle.lists.specs.Listed.{listed}
use Rattle.lists.proofs.Listed.{is_listed}
use Rattle.word.specs.Word.{is_one, val}
use Rattle.word.proofs.Words.{val_lt, one_val}
use Rattle.rule.specs.Net.{Net, input, constant, gate}
use Rattle.card_wiring.specs.Layout.{kind_of}
use Rattle.std.specs.Prelude.{Ok}
use Rattle.card_records.specs.declared.NetRecord.{NetRecord}
use Rattle.card_records.specs.declared.Record.TheVariants.{End, Net as Netted}
use Rattle.card_records.specs.Bytes.{u16_at, body_fits, pin_count, net_record, record_read}
use Rattle.card_records.specs.Scan.{net_meant}
use Rattle.card_records.specs.Written.{two, record_of, body_of, net_bytes, end_bytes, Legal}
use Rattle.card_records.proofs.Heads.{KindIs, of_input, of_constant, of_gate, of_end, kind_fits_lem, type_known}
use Rattle.card_records.proofs.Found.{Whole, end, net, read_as}
use Rattle.card_records.proofs.Spelled.{length_pins}

-- A net's record

-- its length fits its kind,
pub net_kind : (w : Net) → Legal w → KindIs (kind_of w) (length (body_of w))
net_kind input l = of_input refl refl
net_kind (constant k) l = of_constant refl refl
net_kind (gate ty ps) l =
    let long = length_pins ps in
    let fits = l refl in
    let some = (type_known ty (length ps) fits.0).1 in
    of_gate refl (omega arith) (omega arith) (omega arith)

-- which is not the end's
pub net_no_end : (w : Net) → ¬ (kind_of w ≡ 4)
net_no_end input e = omega arith
net_no_end (constant k) e = omega arith
net_no_end (gate ty ps) e = omega arith

module _ (s : List ℕ) where
  -- What bytes that are known say

  byte_of : (at i : ℕ) (t : List ℕ) → drop at s ≡ t → get_or s (at + i) 0 ≡ get_or t i 0
  byte_of at i t h = sym (get_or-drop at s i 0) ∙ ap (λ l. get_or l i 0) h

  first_of : (at : ℕ) (t : List ℕ) → drop at s ≡ t → get_or s at 0 ≡ get_or t 0 0
  first_of at t h = let x : at + 0 ≡ at = omega arith in rw x at (byte_of at 0 t h)

  pub two_of : (at x : ℕ) (t : List ℕ) → drop at s ≡ two x ++ t → u16_at s at ≡ x
  unfolding u16_at
  two_of at x t h = rw (first_of at (two x ++ t) h, byte_of at 1 (two x ++ t) h) (omega arith)

  past : (at : ℕ) (t rest : List ℕ) → drop at s ≡ t ++ rest → drop (at + length t) s ≡ rest
  past at t rest h = sym (drop-drop (length t) at s) ∙ ap (drop (length t)) h ∙ drop-append_seam t rest

  pins_of_lem : (ps : List ℕ) (start : ℕ) (rest : List ℕ) → drop start s ≡ each two ps ++ rest → (j : ℕ) → j < length ps → get_or ps j 0 ≡ u16_at s (start + 2 * j)
  pins_of_lem [] start rest h j l = absurd (omega arith)
  pins_of_lem (p ∷ ps) start rest h zero l = let x : start + 2 * 0 ≡ start = omega arith in rw x (sym (two_of start p (each two ps ++ rest) h))
  pins_of_lem (p ∷ ps) start rest h (suc j) l =
      let x : start + 2 + 2 * j ≡ start + 2 * suc j = omega arith in
      rw x at (pins_of_lem ps (start + 2) rest (past start (two p) (each two ps ++ rest) h) j (omega arith))

  record Head (at kind : ℕ) (body rest : List ℕ) : Type 0 where
    kind_is : kind ≡ u16_at s (at + 2)
    len_is : length body ≡ u16_at s at
    inside : at + 4 + length body ≤ length s
    body_is : drop (at + 4) s ≡ body ++ rest

  head_of : (at kind : ℕ) (body rest : List ℕ) → drop at s ≡ record_of kind body ++ rest → Head at kind body rest
  head_of at kind body rest h =
      let p : drop (at + 2) s ≡ two kind ++ (body ++ rest) = past at (two (length body)) (two kind ++ (body ++ rest)) h in
      let q : drop (at + 2 + 2) s ≡ body ++ rest = past (at + 2) (two kind) (body ++ rest) p in
      let x : at + 2 + 2 ≡ at + 4 = omega arith in
      let l : length s - at ≡ 4 + length (body ++ rest) = sym (length-drop at s) ∙ ap length h ∙ omega arith in
      record {
        kind_is = sym (two_of (at + 2) kind (body ++ rest) p);
        len_is = sym (two_of at (length body) (two kind ++ (body ++ rest)) h);
        inside = omega (arith, length-append body rest);
        body_is = rw x at q;
      }

  -- A record

  -- read at a place as a net, with the rest after it
  abbrev pub Again : ℕ → Net → List ℕ → Type 0
  Again at w rest = (r : NetRecord) × (record_read s at ≡ Ok (Netted r)) × (net_meant s r ≡ w) × (drop r.next s ≡ rest)

  again : (at : ℕ) (w : Net) (rest : List ℕ) → Legal w → Head at (kind_of w) (body_of w) rest → body_fits (kind_of w) (length (body_of w)) (get_or s (at + 4) 0) ≡ true
      → net_meant s (net_record (kind_of w) (length (body_of w)) (at + 4) (get_or s (at + 4) 0)) ≡ w → Again at w rest
  unfolding net_record
  again at w rest l h b m =
      let first = get_or s (at + 4) 0 in
      let whole : Whole (length s) at (kind_of w) (length (body_of w)) first =
      record { inside = h.inside; head = kind_fits_lem (kind_of w) _ (net_kind w l); body = b } in (
        net_record (kind_of w) (length (body_of w)) (at + 4) first,
        sym (read_as s at (kind_of w) (length (body_of w)) first _ h.kind_is h.len_is refl (net whole (net_no_end w))),
        m,
        past (at + 4) (body_of w) rest h.body_is,
      )

  pub net_again : (at : ℕ) (w : Net) (rest : List ℕ) → drop at s ≡ net_bytes w ++ rest → Legal w → Again at w rest
  unfolding net_bytes body_fits net_meant net_record
  net_again at input rest h l = again at input rest l (head_of at 1 [] rest h) refl refl
  net_again at (constant k) rest h l =
      let head = head_of at 2 (val k ∷ []) rest h in
      let first : get_or s (at + 4) 0 ≡ val k = first_of (at + 4) (val k ∷ rest) head.body_is in
      again at (constant k) rest l head (rw first (lt-ltb (val k) 2 (val_lt k))) (ap (λ v. constant (is_one v)) first ∙ ap constant (one_val k))
  net_again at (gate ty ps) rest h l =
      let head = head_of at 3 (ty ∷ each two ps) rest h in
      let first : get_or s (at + 4) 0 ≡ ty = first_of (at + 4) (ty ∷ (each two ps ++ rest)) head.body_is in
      let long : length (each two ps) ≡ 2 * length ps = length_pins ps in
      let m : pin_count (suc (length (each two ps))) ≡ length ps = omega arith in
      let after : drop (at + 4 + 1) s ≡ each two ps ++ rest = past (at + 4) (ty ∷ []) (each two ps ++ rest) head.body_is in
      let all : ps ≡ listed (λ j. u16_at s (at + 4 + 1 + 2 * j)) (length ps) = is_listed _ (length ps) 0 ps refl (pins_of_lem ps (at + 4 + 1) rest after) in
      again at (gate ty ps) rest l head (rw (first, m) (l refl).0) (rw (first, m) (ap (gate ty) (sym all)))

  pub end_again : (at : ℕ) (rest : List ℕ) → drop at s ≡ end_bytes ++ rest → (record_read s at ≡ Ok (End (at + 4))) × (drop (at + 4) s ≡ rest) × (at + 4 ≤ length s)
  unfolding body_fits
  end_again at rest h =
      let head = head_of at 4 [] rest h in
      let whole : Whole (length s) at 4 0 (get_or s (at + 4) 0) = record { inside = head.inside; head = kind_fits_lem 4 0 (of_end refl refl); body = refl } in
      (sym (read_as s at 4 0 (get_or s (at + 4) 0) _ head.kind_is head.len_is refl (end whole refl)), head.body_is, omega (arith, head.inside))
