-- A number that passes its test lies in the range of its type: the facts that values of these types carry.
use Rattle.std.specs.Prelude.{◌≡◌, ℕ, ◌/◌, ◌%◌, ◌<◌, ◌≤◌, true, ◌&&◌, nat_le, nat_lt}
use Rattle.std.proofs.Common.{arith}
use Rattle.std.proofs.lemmas.Bool.{and_parts, leb-true, ltb-true}
use Rattle.values.specs.Calendar.{IsMonth, is_month, IsDay, is_day, IsTime, is_time, is_duration, seconds_of, days_in}
use Rattle.values.specs.Rates.{IsScenario, is_scenario, IsCarrier, is_carrier}

pub month_range : (n : ℕ) → is_month n ≡ true → IsMonth n
month_range n e =
    let p = and_parts (nat_le 200001 n && nat_le n 209912) (nat_le 1 (n % 100) && nat_le (n % 100) 12) e in
    let q = and_parts (nat_le 200001 n) (nat_le n 209912) p.0 in
    let r = and_parts (nat_le 1 (n % 100)) (nat_le (n % 100) 12) p.1 in
    (leb-true 200001 n q.0, leb-true n 209912 q.1, leb-true 1 (n % 100) r.0, leb-true (n % 100) 12 r.1)

pub day_range : (n : ℕ) → is_day n ≡ true → IsDay n
day_range n e =
    let p = and_parts (is_month (n / 100)) (nat_le 1 (n % 100) && nat_le (n % 100) (days_in (n / 100))) e in
    let q = and_parts (nat_le 1 (n % 100)) (nat_le (n % 100) (days_in (n / 100))) p.1 in
    (month_range (n / 100) p.0, leb-true 1 (n % 100) q.0, leb-true (n % 100) (days_in (n / 100)) q.1)

-- hours below a bound, and minutes and seconds below 60
clock_range : (n b : ℕ) → (nat_lt n b && (nat_lt (n / 100 % 100) 60 && nat_lt (n % 100) 60)) ≡ true → (n < b) × (n / 100 % 100 < 60) × (n % 100 < 60)
clock_range n b e =
    let p = and_parts (nat_lt n b) (nat_lt (n / 100 % 100) 60 && nat_lt (n % 100) 60) e in
    let q = and_parts (nat_lt (n / 100 % 100) 60) (nat_lt (n % 100) 60) p.1 in
    (ltb-true n b p.0, ltb-true (n / 100 % 100) 60 q.0, ltb-true (n % 100) 60 q.1)

pub time_range : (n : ℕ) → is_time n ≡ true → IsTime n
time_range n e = clock_range n 240000 e

pub duration_range : (n : ℕ) → is_duration n ≡ true → seconds_of n ≤ 3599999
duration_range n e = let r = clock_range n 10000000 e in omega arith

pub scenario_range : (m g l : ℕ) → is_scenario m g l ≡ true → IsScenario m g l
scenario_range m g l e =
    let p = and_parts (nat_le m 999) (nat_le g 999 && nat_le l 999) e in
    let q = and_parts (nat_le g 999) (nat_le l 999) p.1 in
    (leb-true m 999 p.0, leb-true g 999 q.0, leb-true l 999 q.1)

pub carrier_range : (n : ℕ) → is_carrier n ≡ true → IsCarrier n
carrier_range n e = let p = and_parts (nat_le 1 n) (nat_le n 999) e in (leb-true 1 n p.0, leb-true n 999 p.1)
