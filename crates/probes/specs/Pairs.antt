-- Bytes written as pairs of hexadecimal digits, the high one first.
use Rattle.std.specs.Prelude.{ℕ, ◌+◌, ◌-◌, ◌*◌, ◌/◌, Bool, cond, ◌&&◌, List, map, length, slice_index, nat_le}
use Rattle.std.specs.Simd.{first_chunks}

abbrev pub is_within : ℕ → ℕ → ℕ → Bool
is_within low high b = nat_le low b && nat_le b high

-- 0 to 9 and a to f; any other byte counts as 0
abbrev pub digit_value : ℕ → ℕ
digit_value b = cond (is_within 48 57 b) (b - 48) (cond (is_within 97 102 b) (b - 97 + 10) 0)

abbrev pub pair_value : List ℕ → ℕ
pair_value pair = digit_value (slice_index pair 0) * 16 + digit_value (slice_index pair 1)

-- an odd last digit is passed over
abbrev pub decoded : List ℕ → List ℕ
decoded text = map pair_value (first_chunks 2 (length text / 2) text)
