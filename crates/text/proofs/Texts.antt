-- Texts put one after another are one text put; a number's digits and how many they are; two texts compared. Assumes nothing.
use mathlib.Core.Path.{◌≡◌, refl, sym, ap, ap₂, ◌∙◌, subst}
use mathlib.Core.Bool.{Bool, true, false, cond, ◌&&◌}
use mathlib.Core.List.{List, [], ◌∷◌, ◌++◌, append_assoc}
use Prim.Native.Nat.{ℕ, zero, suc, ◌+◌, ◌/◌, ◌%◌, ◌^◌, ◌≤◌, ◌<◌}
use native.Mathlib.Omega.{arith}
use native.Mathlib.Decide.{dec_lt}
use native.Mathlib.Nat.{pow-suc}
use native.Mathlib.Numerals.{add-one}
use lib.Dec.{eqb, ltb}
use lib.Pointwise.{pointwise}
use lib.ListN.{length, get_or, take, drop, set, length-append}
use lib.Seq.{sets, sets-eq, drop-cons, drop-drop}
use borrow.Rule.Slice.PartMut.{put_mid}
use borrow.Author.Tests.{lt-ltb, le-ltb}
use Rattle.text.specs.Text.{digit, digits_in, decimal, same_text}
use Rattle.text.specs.declared.Page.{Page}
use Rattle.text.specs.Inner.Put.{Put, Puts}

-- two texts, the second where the first ends
pub sets_append : (s t l : List ℕ) (i : ℕ) → sets l i (s ++ t) ≡ sets (sets l i s) (i + length s) t
sets_append [] t l i = ap (λ k. sets l k t) (omega arith)
sets_append (a ∷ s) t l i = sets_append s t (set l i a) (suc i) ∙ ap (λ k. sets (sets (set l i a) (suc i) s) k t) (omega arith)

pub put_then : {s t a b c : List ℕ} {i j k : ℕ} → Put s a i b j → Put t b j c k → Put (s ++ t) a i c k
put_then {s} {t} {a} {b} {c} {i} {j} {k} p q =
    record {
      page_is = q.page_is ∙ ap (λ l. sets l j t) p.page_is ∙ ap (λ m. sets (sets a i s) m t) p.end_is ∙ sym (sets_append s t a i);
      end_is = omega (arith, p.end_is, q.end_is, length-append s t);
    }

-- nothing is put
pub put_none : (a : List ℕ) (i : ℕ) → Put [] a i a i
put_none a i = record { page_is = refl; end_is = omega arith }

pub put_same : {s t a b : List ℕ} {i j : ℕ} → s ≡ t → Put s a i b j → Put t a i b j
put_same {a = a} {b = b} {i = i} {j = j} e p = subst (λ s. Put s a i b j) e p

-- the same of a page
pub puts_then : {s t : List ℕ} {p q r : Page} → Puts s p q → Puts t q r → Puts (s ++ t) p r
puts_then a b = record { put = put_then a.put b.put; same = b.same ∙ a.same }

pub puts_none : (p : Page) → Puts [] p p
puts_none p = record { put = put_none _ _; same = refl }

pub puts_same : {s t : List ℕ} {p q : Page} → s ≡ t → Puts s p q → Puts t p q
puts_same {p = p} {q = q} e a = subst (λ s. Puts s p q) e a

-- a text put on a page that was new, and what the caller lent for it then holds
pub put_lent : {text old new : List ℕ} {name : ℕ} {p q : Page} → p.out.ghost_name ≡ name → p.out.now ≡ old → p.at ≡ 0 → Puts text p q
    → (name ≡ q.out.ghost_name → new ≡ q.out.now) → Put text old 0 new q.at
put_lent {text} n o z w f =
    record { page_is = f (sym n ∙ sym w.same) ∙ w.put.page_is ∙ ap₂ (λ l i. sets l i text) o z; end_is = omega (arith, w.put.end_is, z) }

-- a word copied into a part of a page
pub put_part : (word old part : List ℕ) (at k : ℕ) → k ≡ length word → at + length word ≤ length old → part ≡ word → put_mid at k old part ≡ sets old at word
put_part word old part at k n l e =
    ap₂ (λ p j. take at old ++ (p ++ drop j (drop at old))) e n
    ∙ ap (λ r. take at old ++ (word ++ r)) (drop-drop (length word) at old)
    ∙ sym (append_assoc (take at old) word (drop (at + length word) old))
    ∙ sym (sets-eq word old at l)

-- A number's digits

-- with room for all of them, more room changes nothing
fuel : (k j n : ℕ) → n < k → n < j → digits_in k n ≡ digits_in j n
unfolding digits_in
fuel zero j n p q = absurd (omega arith)
fuel (suc k) zero n p q = absurd (omega arith)
fuel (suc k) (suc j) n p q = go (dec_lt n 10) (λ l. fuel k j (n / 10) (omega arith) (omega arith))
  where
    by_digits : List ℕ → List ℕ
    by_digits high = cond (ltb n 10) (digit n ∷ []) (high ++ (digit (n % 10) ∷ []))

    go : Dec (n < 10) → (10 ≤ n → digits_in k (n / 10) ≡ digits_in j (n / 10)) → by_digits (digits_in k (n / 10)) ≡ by_digits (digits_in j (n / 10))
    go (yes l) f = rw (lt-ltb n 10 l)
    go (no l) f = rw (le-ltb n 10 (omega arith)) (ap (λ xs. xs ++ (digit (n % 10) ∷ [])) (f (omega arith)))

pub decimal_low : (n : ℕ) → n < 10 → decimal n ≡ digit n ∷ []
unfolding decimal digits_in
decimal_low n l = rw (lt-ltb n 10 l)

pub decimal_high : (n : ℕ) → 10 ≤ n → decimal n ≡ decimal (n / 10) ++ (digit (n % 10) ∷ [])
unfolding decimal digits_in
decimal_high n l =
    subst (λ b. cond b (digit n ∷ []) (digits_in n (n / 10) ++ (digit (n % 10) ∷ [])) ≡ decimal (n / 10) ++ (digit (n % 10) ∷ []))
    (sym (le-ltb n 10 l)) (ap (λ xs. xs ++ (digit (n % 10) ∷ [])) (fuel n (suc (n / 10)) (n / 10) (omega arith) (omega arith)))

-- one digit more than the number without its last
pub length_more : (n : ℕ) → 10 ≤ n → length (decimal n) ≡ length (decimal (n / 10)) + 1
length_more n l = ap length (decimal_high n l) ∙ length-append (decimal (n / 10)) (digit (n % 10) ∷ [])

-- a number below 10 ^ (k + 1) has at most k + 1 digits
pub decimal_short : (k n : ℕ) → n < 10 ^ suc k → length (decimal n) ≤ suc k
decimal_short zero n l = rw (decimal_low n (omega arith)) (omega arith)
decimal_short (suc k) n l = go (dec_lt n 10) (decimal_short k (n / 10) (omega (arith, pow-suc 10 (suc k))))
  where
    go : Dec (n < 10) → length (decimal (n / 10)) ≤ suc k → length (decimal n) ≤ suc (suc k)
    go (yes p) h = rw (decimal_low n p) (omega arith)
    go (no p) h = omega (arith, length_more n (omega arith))

-- Two texts, from a place on, and compared

-- one byte more to look at
pub drop_next : (t : List ℕ) (i : ℕ) → i < length t → drop i t ≡ get_or t i 0 ∷ drop (i + 1) t
drop_next t i l = rw (add-one i) (drop-cons t i 0 l)

-- what std's equality of slices answers
pub same_is : (a b : List ℕ) → pointwise eqb a b ≡ same_text a b
unfolding same_text
same_is [] [] = refl
same_is [] (y ∷ ys) = refl
same_is (x ∷ xs) [] = refl
same_is (x ∷ xs) (y ∷ ys) = go (eqb x y) (same_is xs ys)
  where
    go : (t : Bool) → pointwise eqb xs ys ≡ same_text xs ys → (t && pointwise eqb xs ys) ≡ cond t (same_text xs ys) false
    go true e = e
    go false e = refl
