-- Numbers in a fixed number of places, in base b, where z is the symbol of 0.
-- Decimal digits have base 10 and z 48; big-endian bytes have base 256 and z 0.
use Rattle.std.specs.Prelude.{◌≡◌, ℕ, zero, suc, ◌+◌, ◌-◌, ◌*◌, ◌/◌, ◌%◌, ◌^◌, ◌<◌, ◌≤◌, Bool, true, false, cond, ◌&&◌, ◌||◌, List, [], ◌∷◌, ◌++◌, length, Some, None, Option, ◌==◌, nat_le, nat_lt}

-- what the symbols write after the number n
abbrev pub number_after : ℕ → ℕ → ℕ → List ℕ → ℕ
number_after b z n [] = n
number_after b z n (c ∷ cs) = number_after b z (n * b + (c - z)) cs

-- each symbol is a digit of the base
abbrev pub are_digits : ℕ → ℕ → List ℕ → Bool
are_digits b z [] = true
are_digits b z (c ∷ cs) = (nat_le z c && nat_lt c (z + b)) && are_digits b z cs

-- the lowest w places of n, the highest first
unfoldable pub places : ℕ → ℕ → ℕ → ℕ → List ℕ
places b z zero n = []
places b z (suc w) n = places b z w (n / b) ++ ((z + n % b) ∷ [])

-- decimal digits
abbrev pub decimal : List ℕ → ℕ
decimal cs = number_after 10 48 0 cs

abbrev pub all_decimal : List ℕ → Bool
all_decimal cs = are_digits 10 48 cs

-- the number that decimal digits write, or none where a symbol is no digit
abbrev pub read_decimal : List ℕ → Option ℕ
read_decimal cs = cond (all_decimal cs) (Some (decimal cs)) None

-- the number that exactly w digits write; widths above 19 have none, since their numbers may not fit 64 bits
abbrev pub numeral : ℕ → List ℕ → Option ℕ
numeral w cs = cond (length cs == w && nat_le w 19) (read_decimal cs) None

-- the lowest w decimal digits of n
abbrev pub write_decimal : ℕ → ℕ → List ℕ
write_decimal w n = places 10 48 w n

-- big-endian bytes
abbrev pub big_endian : List ℕ → ℕ
big_endian cs = number_after 256 0 0 cs

-- at most 16 bytes, whose numbers all fit 128 bits
abbrev pub read_bytes : List ℕ → Option ℕ
read_bytes cs = cond (nat_le (length cs) 16) (Some (big_endian cs)) None

abbrev pub bytes_of : ℕ → ℕ → List ℕ
bytes_of w n = places 256 0 w n

-- what is written reads back, and what reads is written back to the same symbols
abbrev pub ReadsBack : Type 0
ReadsBack = (w n : ℕ) → w ≤ 19 → n < 10 ^ w → numeral w (write_decimal w n) ≡ Some n

abbrev pub WritesBack : Type 0
WritesBack = (w : ℕ) (cs : List ℕ) (n : ℕ) → numeral w cs ≡ Some n → (write_decimal w n ≡ cs) × (n < 10 ^ w)

-- symbol by symbol, the first difference decides
abbrev pub lex_less : List ℕ → List ℕ → Bool
lex_less [] ys = false
lex_less (x ∷ xs) [] = false
lex_less (x ∷ xs) (y ∷ ys) = nat_lt x y || (x == y && lex_less xs ys)

-- the order of bytes is the order of their numbers
abbrev pub KeepsOrder : Type 0
KeepsOrder =
    (xs ys : List ℕ) → length xs ≡ length ys → are_digits 256 0 xs ≡ true → are_digits 256 0 ys ≡ true
    → lex_less xs ys ≡ nat_lt (big_endian xs) (big_endian ys)
