-- Months AAAAMM from 200001 to 209912, their calendar days AAAAMMDD, times of day HHMMSS, durations in seconds.
use Rattle.std.specs.Prelude.{ℕ, ◌+◌, ◌-◌, ◌*◌, ◌/◌, ◌%◌, ◌<◌, ◌≤◌, Bool, cond, not, ◌&&◌, ◌||◌, ◌==◌, nat_le, nat_lt}

abbrev pub IsMonth : ℕ → Type 0
IsMonth n = (200001 ≤ n) × (n ≤ 209912) × (1 ≤ n % 100) × (n % 100 ≤ 12)

abbrev pub is_month : ℕ → Bool
is_month n = (nat_le 200001 n && nat_le n 209912) && (nat_le 1 (n % 100) && nat_le (n % 100) 12)

-- the Gregorian rule
abbrev pub is_leap : ℕ → Bool
is_leap y = y % 4 == 0 && (not (y % 100 == 0) || y % 400 == 0)

abbrev pub is_short : ℕ → Bool
is_short m = (m == 4 || m == 6) || (m == 9 || m == 11)

abbrev pub days_in : ℕ → ℕ
days_in n = cond (n % 100 == 2) (cond (is_leap (n / 100)) 29 28) (cond (is_short (n % 100)) 30 31)

abbrev pub IsDay : ℕ → Type 0
IsDay n = IsMonth (n / 100) × (1 ≤ n % 100) × (n % 100 ≤ days_in (n / 100))

abbrev pub is_day : ℕ → Bool
is_day n = is_month (n / 100) && (nat_le 1 (n % 100) && nat_le (n % 100) (days_in (n / 100)))

abbrev pub IsTime : ℕ → Type 0
IsTime n = (n < 240000) × (n / 100 % 100 < 60) × (n % 100 < 60)

abbrev pub is_time : ℕ → Bool
is_time n = nat_lt n 240000 && (nat_lt (n / 100 % 100) 60 && nat_lt (n % 100) 60)

-- HHHMMSS with minutes and seconds under 60, and its seconds
abbrev pub is_duration : ℕ → Bool
is_duration n = nat_lt n 10000000 && (nat_lt (n / 100 % 100) 60 && nat_lt (n % 100) 60)

abbrev pub seconds_of : ℕ → ℕ
seconds_of n = n / 10000 * 3600 + n / 100 % 100 * 60 + n % 100

-- months since January 2000
abbrev pub month_index : ℕ → ℕ
month_index n = (n / 100 - 2000) * 12 + (n % 100 - 1)

-- m is the reference or one of the so many months before it
abbrev pub in_window : ℕ → ℕ → ℕ → Bool
in_window reference back m = nat_le m reference && nat_le (month_index reference) (month_index m + back)
