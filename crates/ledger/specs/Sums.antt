-- The largest numbers of calls and of tenths that a row may have.
use Rattle.std.specs.Prelude.{ℕ, ◌≤◌, Bool, ◌&&◌, nat_le}

abbrev pub most_calls : ℕ
most_calls = 999999999999

abbrev pub most_tenths : ℕ
most_tenths = 9999999999999

abbrev pub IsTraffic : ℕ → ℕ → Type 0
IsTraffic calls tenths = (calls ≤ most_calls) × (tenths ≤ most_tenths)

abbrev pub is_traffic : ℕ → ℕ → Bool
is_traffic calls tenths = nat_le calls most_calls && nat_le tenths most_tenths
