-- Tariffs in millionths of a real per minute, tax rates in hundred-thousandths, scenarios in seconds, terms.
use Rattle.std.specs.Prelude.{ℕ, ◌+◌, ◌≤◌, Bool, ◌&&◌, nat_le}

abbrev pub is_tariff : ℕ → Bool
is_tariff n = nat_le n 9999999

abbrev pub are_rates : ℕ → ℕ → Bool
are_rates p i = nat_le (p + i) 50000

abbrev pub IsScenario : ℕ → ℕ → ℕ → Type 0
IsScenario m g l = (m ≤ 999) × (g ≤ 999) × (l ≤ 999)

abbrev pub is_scenario : ℕ → ℕ → ℕ → Bool
is_scenario m g l = nat_le m 999 && (nat_le g 999 && nat_le l 999)

-- the code of a carrier, 001 to 999
abbrev pub IsCarrier : ℕ → Type 0
IsCarrier n = (1 ≤ n) × (n ≤ 999)

abbrev pub is_carrier : ℕ → Bool
is_carrier n = nat_le 1 n && nat_le n 999

-- months back, 0 to 2
abbrev pub is_back : ℕ → Bool
is_back n = nat_le n 2
