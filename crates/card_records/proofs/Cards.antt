-- The card that bytes mean: bytes that are read are a legal card written, and it is read back; reading stops exactly when `Stopped` says so.
-- Assumes nothing.
use mathlib.Core.Path.{◌≡◌, refl, sym, ap, ◌∙◌, subst}
use mathlib.Core.List.Memᴰ
use mathlib.Core.List.{List, [], ◌∷◌, ◌++◌, append_assoc, append-nil}
use mathlib.Core.Logic.{◌⊎◌, inl, inr}
use Prim.Native.Nat.{ℕ, zero, suc, ◌+◌, ◌-◌, ◌≤◌}
use native.Mathlib.Omega.{arith}
use native.Mathlib.Decide.{ℕ_discrete}
use lib.ListN.{length, drop, length-append, length-drop, drop_of_length-le}
use Rattle.lists.specs.Entries.{◌∈◌, each}
use Rattle.rule.specs.Net.{Net}
use Rattle.rule.specs.declared.Refusal.{Refusal}
use Rattle.std.specs.Prelude.{Result, Ok, Err}
use Rattle.card_records.specs.declared.Fault.{Fault}
use Rattle.card_records.specs.declared.Fault.TheVariants.{NoHead, BadHead, NoBody, BadBody}
use Rattle.card_records.specs.declared.NetRecord.{NetRecord}
use Rattle.card_records.specs.declared.Record.{Record}
use Rattle.card_records.specs.declared.Record.TheVariants.{End, Net as Netted}
use Rattle.card_records.specs.Bytes.{record_read}
use Rattle.card_records.specs.Scan.{Meaning, Stops, Means, net_meant, scan, meaning}
use Rattle.card_records.specs.Stopped.{StopsAt, no_head, bad_head, no_body, bad_body, no_room, after, Stopped}
use Rattle.card_records.specs.Written.{net_bytes, end_bytes, card_bytes, Legal, AllLegal, Bytes}
use Rattle.card_records.proofs.Scans.{scan_bad, scan_end, scan_after, scan_full, scan_net}
use Rattle.card_records.proofs.Spelled.{net_spelled, end_spelled}
use Rattle.card_records.proofs.Again.{net_again, end_again}
use Rattle.card_records.proofs.Faults.{fault_stops, headless, wrong_head, bodiless, wrong_body}

-- Legal nets

pub none_legal : AllLegal []
none_legal w m = absurd (Memᴰ.not-nil m)

pub all_legal : (w : Net) (c : List Net) → Legal w → AllLegal c → AllLegal (w ∷ c)
all_legal w c l ls v m = go (Memᴰ.cases_cons m)
  where
    go : (v ≡ w) ⊎ (v ∈ c) → Legal v
    go (inl e) = subst Legal (sym e) l
    go (inr n) = ls v n

-- From bytes to what they mean: after the nets c, some bytes t hold nets d more, and then the end, or what stops the reading

abbrev Told : List ℕ → List Net → Meaning → Type 0
Told t c (Means all) = (d : List Net) × (all ≡ c ++ d) × (t ≡ card_bytes d) × AllLegal d × (length (c ++ d) ≤ 256)
Told t c (Stops r) = (d : List Net) × (later : List ℕ) × (t ≡ each net_bytes d ++ later) × AllLegal d × (length (c ++ d) ≤ 256) × StopsAt later (length (c ++ d)) r

-- one net more in front
front : (t later : List ℕ) (c : List Net) (w : Net) (m : Meaning) → t ≡ net_bytes w ++ later → Legal w → Told later (c ++ (w ∷ [])) m → Told t c m
unfolding card_bytes
front t later c w (Means all) e l (d, q, h, ls, few) = (
  w ∷ d,
  q ∙ append_assoc c (w ∷ []) d,
  e ∙ ap (λ x. net_bytes w ++ x) h ∙ sym (append_assoc (net_bytes w) (each net_bytes d) end_bytes),
  all_legal w d l ls,
  rw (append_assoc c (w ∷ []) d) at few,
)
front t later c w (Stops r) e l (d, rest, h, ls, few, why) = (
  w ∷ d,
  rest,
  e ∙ ap (λ x. net_bytes w ++ x) h ∙ sym (append_assoc (net_bytes w) (each net_bytes d) rest),
  all_legal w d l ls,
  rw (append_assoc c (w ∷ []) d) at few,
  rw (append_assoc c (w ∷ []) d) at why,
)

module _ (s : List ℕ) (bytes : Bytes s) where
  stops_here : (at : ℕ) (c : List Net) (r : Refusal) → length c ≤ 256 → StopsAt (drop at s) (length c) r → Told (drop at s) c (Stops r)
  stops_here at c r few why = ([], drop at s, refl, none_legal, rw (append-nil c) few, rw (append-nil c) why)

  told_end : (room at next : ℕ) (c : List Net) → length c ≤ 256 → record_read s at ≡ Ok (End next) → Told (drop at s) c (scan room s at c)
  unfolding card_bytes
  told_end room at next c few e = go (ℕ_discrete next (length s)) (end_spelled s bytes at next e)
    where
      go : Dec (next ≡ length s) → (drop at s ≡ end_bytes ++ drop next s) × (next ≤ length s) → Told (drop at s) c (scan room s at c)
      go (yes q) (h, b) =
          let done : length s ≤ next = omega arith in
          rw (scan_end s at c room next e q) ([], sym (append-nil c), h ∙ ap (λ x. end_bytes ++ x) (drop_of_length-le s done), none_legal, rw (append-nil c) few)
      go (no q) (h, b) =
          rw (scan_after s at c room next e q)
          (stops_here at c _ few (after (drop next s) h (λ none. q (omega (arith, ap length none, length-drop next s)))))

  -- whatever the record, once it is known what a net's leads to
  told_by : (room at : ℕ) (c : List Net) → length c ≤ 256 → ((r : NetRecord) → record_read s at ≡ Ok (Netted r) → Told (drop at s) c (scan room s at c))
      → Told (drop at s) c (scan room s at c)
  told_by room at c few more = go (record_read s at) refl
    where
      go : (r : Result Record Fault) → record_read s at ≡ r → Told (drop at s) c (scan room s at c)
      go (Err f) e = rw (scan_bad s at c room f e) (stops_here at c _ few (fault_stops s at (length c) f e))
      go (Ok (End next)) e = told_end room at next c few e
      go (Ok (Netted r)) e = more r e

  told : (room at : ℕ) (c : List Net) → length c + room ≡ 256 → Told (drop at s) c (scan room s at c)
  told zero at c full = told_by 0 at c (omega arith) (λ r e.
      let w = net_spelled s bytes at r e in
      rw (scan_full s at c r e) (stops_here at c _ (omega arith) (no_room (net_meant s r) (drop r.next s) w.1 w.0 (omega arith))))
  told (suc room) at c full = told_by (suc room) at c (omega arith) (λ r e.
      let w = net_spelled s bytes at r e in
      let d : List Net = c ++ (net_meant s r ∷ []) in
      rw (scan_net s at c room r e)
      (front (drop at s) (drop r.next s) c (net_meant s r) (scan room s r.next d) w.0 w.1
      (told room r.next d (omega (arith, length-append c (net_meant s r ∷ []))))))

  pub written : (c : List Net) → meaning s ≡ Means c → (s ≡ card_bytes c) × AllLegal c × (length c ≤ 256)
  written c e = go (subst (Told s []) e (told 256 0 [] refl))
    where
      go : Told s [] (Means c) → (s ≡ card_bytes c) × AllLegal c × (length c ≤ 256)
      go (d, q, h, ls, few) = (rw q h, rw q ls, rw q few)

  pub why : (r : Refusal) → meaning s ≡ Stops r → Stopped s r
  why r e = go (subst (Told s []) e (told 256 0 [] refl))
    where
      go : Told s [] (Stops r) → Stopped s r
      go (d, rest, h, ls, few, stops) = record { nets = d; legal = ls; few = few; rest = rest; split = h; stops = stops }

-- And back: legal nets that are written are walked over, and what follows them decides

module _ (s : List ℕ) where
  walked : (d : List Net) (room total at : ℕ) (c : List Net) (later : List ℕ) → total ≡ length d + room → drop at s ≡ each net_bytes d ++ later → AllLegal d
      → (on : ℕ) × (drop on s ≡ later) × (scan total s at c ≡ scan room s on (c ++ d))
  walked [] room total at c later e h ls = let same : total ≡ room = omega arith in (at, h, rw (append-nil c, same))
  walked (w ∷ d) room total at c later e h ls =
      let again = net_again s at w (each net_bytes d ++ later) (h ∙ append_assoc (net_bytes w) (each net_bytes d) later) (ls w (Memᴰ.head refl)) in
      let left : ℕ = length d + room in
      let one_more : total ≡ suc left = omega arith in
      let rest = walked d room left again.0.next (c ++ (w ∷ [])) later refl again.3 (λ v m. ls v (Memᴰ.tail m)) in (
        rest.0,
        rest.1,
        ap (λ k. scan k s at c) one_more ∙ scan_net s at c left again.0 again.1
            ∙ ap (λ v. scan left s again.0.next (c ++ (v ∷ []))) again.2 ∙ rest.2 ∙ ap (scan room s rest.0) (append_assoc c (w ∷ []) d),
      )

  -- what follows the nets so far
  ends : (room at : ℕ) (c : List Net) → drop at s ≡ end_bytes → scan room s at c ≡ Means c
  ends room at c h =
      let again = end_again s at [] h in
      scan_end s at c room (at + 4) again.0 (omega (arith, ap length again.1, length-drop (at + 4) s, again.2))

  stops_at : (room at : ℕ) (c : List Net) (r : Refusal) → length c + room ≡ 256 → StopsAt (drop at s) (length c) r → scan room s at c ≡ Stops r
  stops_at room at c r full (no_head h) = scan_bad s at c room NoHead (headless s at h)
  stops_at room at c r full (bad_head l k) = scan_bad s at c room BadHead (wrong_head s at l k)
  stops_at room at c r full (no_body l k b) = scan_bad s at c room NoBody (bodiless s at l k b)
  stops_at room at c r full (bad_body b k v) = scan_bad s at c room (BadBody _) (wrong_body s at b k v)
  stops_at room at c r full (no_room w later l h e) =
      let again = net_again s at w later h l in
      let none : room ≡ 0 = omega arith in
      rw none (scan_full s at c again.0 again.1)
  stops_at room at c r full (after later h ne) =
      let again = end_again s at later h in
      scan_after s at c room (at + 4) again.0 (λ q. ne (sym again.1 ∙ drop_of_length-le s {i = at + 4} (omega arith)))

  pub stops : (r : Refusal) → Stopped s r → meaning s ≡ Stops r
  stops r h =
      let room : ℕ = 256 - length h.nets in
      let all = walked h.nets room 256 0 [] h.rest (omega (arith, h.few)) h.split h.legal in
      all.2 ∙ stops_at room all.0 h.nets r (omega (arith, h.few)) (rw all.1 h.stops)

pub read_back : (c : List Net) → AllLegal c → length c ≤ 256 → meaning (card_bytes c) ≡ Means c
unfolding card_bytes
read_back c ls few =
    let room : ℕ = 256 - length c in
    let all = walked (card_bytes c) c room 256 0 [] end_bytes (omega arith) refl ls in
    all.2 ∙ ends (card_bytes c) room all.0 c all.1
