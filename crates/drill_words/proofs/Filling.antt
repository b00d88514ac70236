-- A room that is filled from its start, entry by entry. Assumes nothing.
use mathlib.Core.Path.{◌≡◌, refl, sym, ap, ◌∙◌, subst}
use mathlib.Core.List.{List, [], ◌∷◌, ◌++◌, append_assoc, append-nil}
use Prim.Native.Nat.{ℕ, ◌+◌, ◌*◌, ◌≤◌, ◌<◌}
use native.Mathlib.Numerals.{add-one}
use native.Mathlib.Omega.{arith}
use lib.ListN.{length, get_or, take, drop, set, length-set}
use lib.Seq.{length-take-le, take-suc-set, drop-set-lt, drop-drop}
use Rattle.drill_words.specs.Digits.{byte_of, bytes_of}
use Rattle.drill_words.specs.Filled.{Filled}
use Rattle.drill_words.proofs.Spelling.{bytes_on, bytes_end}

-- n entries stand in the room, and the others of the list are still to come
pub record Filling (list old new : List ℕ) (n : ℕ) (others : List ℕ) : Type 0 where
  pub start : take n new ++ others ≡ list
  pub rest : drop n new ≡ drop n old
  pub size : length new ≡ length old
  pub room : n ≤ length new

pub filling_none : (list old : List ℕ) → Filling list old old 0 list
filling_none list old = record { start = refl; rest = refl; size = refl; room = omega arith }

pub filling_more : (list old new : List ℕ) (n v : ℕ) (others : List ℕ) → n < length new → Filling list old new n (v ∷ others) → Filling list old (set new n v) (n + 1) others
filling_more list old new n v others l f = record {
  start = rw (add-one n, take-suc-set new n v l, append_assoc) f.start;
  rest = drop-set-lt (n + 1) new n v (omega arith) ∙ sym (drop-drop 1 n new) ∙ ap (drop 1) f.rest ∙ drop-drop 1 n old;
  size = length-set new n v ∙ f.size;
  room = omega (arith, length-set new n v);
}

pub filling_all : (list old new : List ℕ) (n : ℕ) → Filling list old new n [] → Filled list old new n
filling_all list old new n f =
    let e : take n new ≡ list = sym (append-nil (take n new)) ∙ f.start in
    let p : n ≡ length (take n new) = sym (length-take-le n new f.room) in
    record { count = p ∙ ap length e; room = f.room; part = p; start = e; rest = f.rest }

-- bytes of two digits each

pub hex_more : (w old new : List ℕ) (i v : ℕ) → 2 * i + 1 < length w → v ≡ byte_of (get_or w (2 * i) 0) (get_or w (2 * i + 1) 0) → i < length new
    → Filling (bytes_of w) old new i (bytes_of (drop (2 * i) w)) → Filling (bytes_of w) old (set new i v) (i + 1) (bytes_of (drop (2 * (i + 1)) w))
hex_more w old new i v l e r f =
    let o : bytes_of (drop (2 * i) w) ≡ v ∷ bytes_of (drop (2 * (i + 1)) w) = bytes_on w i l ∙ ap (λ b. b ∷ bytes_of (drop (2 * (i + 1)) w)) (sym e) in
    filling_more (bytes_of w) old new i v (bytes_of (drop (2 * (i + 1)) w)) r (subst (Filling (bytes_of w) old new i) o f)

pub hex_all : (w old new : List ℕ) (i : ℕ) → length w ≤ 2 * i + 1 → Filling (bytes_of w) old new i (bytes_of (drop (2 * i) w)) → Filled (bytes_of w) old new i
hex_all w old new i l f = filling_all (bytes_of w) old new i (subst (Filling (bytes_of w) old new i) (bytes_end w i l) f)
