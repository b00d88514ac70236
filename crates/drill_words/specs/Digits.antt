-- Digits: a number of decimal digits, and bytes of two hexadecimal digits each. Assumes nothing.
use Rattle.std.specs.Prelude.{Bool, true, false, cond, List, [], ◌∷◌, Option, Some, None, ℕ, ◌+◌, ◌-◌, ◌*◌, ◌%◌, ◌^◌, eqb, leb, ltb, length, get_or}

-- a hexadecimal digit's value, of `0` to `9`, `A` to `F` and `a` to `f`; 16 for any other byte
unfoldable pub digit_of : ℕ → ℕ
digit_of b =
    cond (ltb b 48) 16
    (cond (leb b 57) (b - 48)
    (cond (ltb b 65) 16
    (cond (leb b 70) (b - 65 + 10)
    (cond (ltb b 97) 16
    (cond (leb b 102) (b - 97 + 10) 16)))))

-- the number that decimal digits spell after others that spelled n; "Numbers go up to 2^64 - 1"
unfoldable pub spelled_from : ℕ → List ℕ → Option ℕ
spelled_from n [] = Some n
spelled_from n (b ∷ bs) =
    cond (ltb (digit_of b) 10) (cond (ltb (10 * n + digit_of b) (2 ^ 64)) (spelled_from (10 * n + digit_of b) bs) None) None

-- the number that a word spells, by one digit or more
unfoldable pub number_spelled : List ℕ → Option ℕ
number_spelled word = cond (eqb (length word) 0) None (spelled_from 0 word)

-- "rooms to 20,000 entries"
abbrev pub limited : Option ℕ → Option ℕ
limited (Some n) = cond (leb n 20000) (Some n) None
limited None = None

-- the length of a room
abbrev pub room_of : List ℕ → Option ℕ
room_of word = limited (number_spelled word)

-- "`-` where empty"
unfoldable pub is_dash : List ℕ → Bool
is_dash word = cond (eqb (length word) 1) (eqb (get_or word 0 0) 45) false

unfoldable pub all_digits : List ℕ → Bool
all_digits [] = true
all_digits (b ∷ bs) = cond (ltb (digit_of b) 16) (all_digits bs) false

-- "bytes in hex": two digits each
unfoldable pub is_hex : List ℕ → Bool
is_hex word = cond (is_dash word) true (cond (eqb (length word) 0) false (cond (eqb (length word % 2) 1) false (all_digits word)))

-- a hexadecimal digit's value, and 0 for any other byte
unfoldable pub nibble_of : ℕ → ℕ
nibble_of b = cond (ltb (digit_of b) 16) (digit_of b) 0

abbrev pub byte_of : ℕ → ℕ → ℕ
byte_of a b = nibble_of a * 16 + nibble_of b

-- the bytes that digits spell, two digits each; `-` spells none
unfoldable pub bytes_of : List ℕ → List ℕ
bytes_of [] = []
bytes_of (a ∷ []) = []
bytes_of (a ∷ b ∷ bs) = byte_of a b ∷ bytes_of bs
