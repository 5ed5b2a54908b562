-- The value that a number or a text stands for, or none where it is out of range.
use Rattle.std.specs.Prelude.{ℕ, ◌+◌, ◌/◌, cond, List, None, Option, nat_le}
use Rattle.std.proofs.lemmas.Bool.{leb-true}
use Rattle.digits.specs.Positional.{big_endian}
use Rattle.values.specs.Calendar.{is_month, is_day, is_time, is_duration, seconds_of}
use Rattle.values.specs.Checked.{checked, numbered}
use Rattle.values.specs.Labels.{is_point, is_point_number, is_descriptor, is_descriptor_number}
use Rattle.values.specs.Rates.{is_tariff, are_rates, is_scenario, is_carrier, is_back}
use Rattle.values.specs.Ranges.{month_range, day_range, time_range, duration_range, scenario_range, carrier_range}
use Rattle.values.specs.declared.calendar.Month.{Month}
use Rattle.values.specs.declared.calendar.Day.{Day}
use Rattle.values.specs.declared.calendar.TimeOfDay.{TimeOfDay}
use Rattle.values.specs.declared.calendar.Duration.{Duration}
use Rattle.values.specs.declared.labels.Point.{Point}
use Rattle.values.specs.declared.labels.Descriptor.{Descriptor}
use Rattle.values.specs.declared.rates.Tariff.{Tariff}
use Rattle.values.specs.declared.rates.TaxRates.{TaxRates}
use Rattle.values.specs.declared.rates.Scenario.{Scenario}
use Rattle.values.specs.declared.terms.Carrier.{Carrier}
use Rattle.values.specs.declared.terms.Terms.{Terms}

abbrev pub month_of : ℕ → Option Month
month_of n = checked (is_month n) (λ e. record { number = n; ok = month_range n e })

abbrev pub month_in : List ℕ → Option Month
month_in cs = numbered 6 month_of cs

abbrev pub day_of : ℕ → Option Day
day_of n = checked (is_day n) (λ e. record { number = n; ok = day_range n e })

abbrev pub day_in : List ℕ → Option Day
day_in cs = numbered 8 day_of cs

-- the month in which a day lies
abbrev pub month_of_day : Day → Month
month_of_day d = record { number = d.number / 100; ok = d.ok.0 }

abbrev pub time_of : ℕ → Option TimeOfDay
time_of n = checked (is_time n) (λ e. record { number = n; ok = time_range n e })

abbrev pub time_in : List ℕ → Option TimeOfDay
time_in cs = numbered 6 time_of cs

abbrev pub earlier : TimeOfDay → TimeOfDay → TimeOfDay
earlier a b = cond (nat_le a.number b.number) a b

abbrev pub later : TimeOfDay → TimeOfDay → TimeOfDay
later a b = cond (nat_le a.number b.number) b a

abbrev pub duration_of : ℕ → Option Duration
duration_of n = checked (is_duration n) (λ e. record { seconds = seconds_of n; ok = duration_range n e })

abbrev pub duration_in : List ℕ → Option Duration
duration_in cs = numbered 7 duration_of cs

abbrev pub point_of : ℕ → Option Point
point_of n = checked (is_point_number n) (λ e. record { number = n; ok = e })

abbrev pub point_in : List ℕ → Option Point
point_in cs = cond (is_point cs) (point_of (big_endian cs)) None

abbrev pub descriptor_of : ℕ → Option Descriptor
descriptor_of n = checked (is_descriptor_number n) (λ e. record { number = n; ok = e })

abbrev pub descriptor_in : List ℕ → Option Descriptor
descriptor_in cs = cond (is_descriptor cs) (descriptor_of (big_endian cs)) None

abbrev pub tariff_of : ℕ → Option Tariff
tariff_of n = checked (is_tariff n) (λ e. record { number = n; ok = leb-true n 9999999 e })

abbrev pub tariff_in : List ℕ → Option Tariff
tariff_in cs = numbered 7 tariff_of cs

-- PIS/COFINS and ICMS
abbrev pub rates_of : ℕ → ℕ → Option TaxRates
rates_of p i = checked (are_rates p i) (λ e. record { pis = p; icms = i; ok = leb-true (p + i) 50000 e })

-- minimum, message, least billed
abbrev pub scenario_of : ℕ → ℕ → ℕ → Option Scenario
scenario_of m g l =
    checked (is_scenario m g l) (λ e. record { minimum = m; message = g; least = l; ok = scenario_range m g l e })

abbrev pub carrier_of : ℕ → Option Carrier
carrier_of n = checked (is_carrier n) (λ e. record { code = n; ok = carrier_range n e })

abbrev pub terms_of : Carrier → Carrier → ℕ → TaxRates → Option Terms
terms_of c d b r = checked (is_back b) (λ e. record { creditor = c; debtor = d; back = b; rates = r; ok = leb-true b 2 e })
