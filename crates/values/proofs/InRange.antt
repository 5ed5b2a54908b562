-- A number in the range of its type passes its test.
use Rattle.std.proofs.Common.{◌≡◌, ℕ, ◌/◌, ◌%◌, true, ◌&&◌, ltb, leb}
use Rattle.std.proofs.lemmas.Bool.{and_from, le-leb, lt-ltb}
use Rattle.values.specs.Calendar.{IsMonth, is_month, IsDay, is_day, IsTime, is_time, days_in}
use Rattle.values.specs.Rates.{IsScenario, is_scenario, IsCarrier, is_carrier}

pub month_test : (n : ℕ) → IsMonth n → is_month n ≡ true
month_test n h =
    and_from (leb 200001 n && leb n 209912) (leb 1 (n % 100) && leb (n % 100) 12)
    (and_from (leb 200001 n) (leb n 209912) (le-leb 200001 n h.0) (le-leb n 209912 h.1))
    (and_from (leb 1 (n % 100)) (leb (n % 100) 12) (le-leb 1 (n % 100) h.2) (le-leb (n % 100) 12 h.3))

pub day_test : (n : ℕ) → IsDay n → is_day n ≡ true
day_test n h =
    and_from (is_month (n / 100)) (leb 1 (n % 100) && leb (n % 100) (days_in (n / 100)))
    (month_test (n / 100) h.0)
    (and_from (leb 1 (n % 100)) (leb (n % 100) (days_in (n / 100))) (le-leb 1 (n % 100) h.1) (le-leb (n % 100) (days_in (n / 100)) h.2))

pub time_test : (n : ℕ) → IsTime n → is_time n ≡ true
time_test n h =
    and_from (ltb n 240000) (ltb (n / 100 % 100) 60 && ltb (n % 100) 60) (lt-ltb n 240000 h.0)
    (and_from (ltb (n / 100 % 100) 60) (ltb (n % 100) 60) (lt-ltb (n / 100 % 100) 60 h.1) (lt-ltb (n % 100) 60 h.2))

pub scenario_test : (m g l : ℕ) → IsScenario m g l → is_scenario m g l ≡ true
scenario_test m g l h =
    and_from (leb m 999) (leb g 999 && leb l 999) (le-leb m 999 h.0)
    (and_from (leb g 999) (leb l 999) (le-leb g 999 h.1) (le-leb l 999 h.2))

pub carrier_test : (n : ℕ) → IsCarrier n → is_carrier n ≡ true
carrier_test n h = and_from (leb 1 n) (leb n 999) (le-leb 1 n h.0) (le-leb n 999 h.1)
