-- A value is made again from its number, so values with equal numbers are equal.
use Rattle.std.proofs.Common.{◌≡◌, ℕ, ◌+◌, ◌≤◌, Bool, true, false, Some, None, Option, sym, refl, ap, ◌∙◌, arith}
use mathlib.Core.Bool.{Bool-set}
use mathlib.Core.HLevel.{Σ_prop_path}
use native.Mathlib.Bridge.{le_prop}
use Rattle.std.proofs.lemmas.Bool.{false≢true, leb-true, le-leb}
use Rattle.values.specs.Calendar.{IsMonth, is_month, IsDay, is_day, IsTime, is_time, is_duration, seconds_of}
use Rattle.values.specs.Checked.{checked}
use Rattle.values.specs.Labels.{is_point_number, is_descriptor_number}
use Rattle.values.specs.Rates.{is_tariff, are_rates, IsScenario, is_scenario, IsCarrier, is_carrier, is_back}
use Rattle.values.specs.Values.{month_of, day_of, time_of, duration_of, point_of, descriptor_of, tariff_of, rates_of, scenario_of, carrier_of, terms_of}
use Rattle.values.specs.Ranges.{month_range, day_range, time_range, duration_range, scenario_range, carrier_range}
use Rattle.values.proofs.InRange.{month_test, day_test, time_test, scenario_test, carrier_test}
use Rattle.values.specs.declared.calendar.Month.{Month}
use Rattle.values.specs.declared.calendar.Day.{Day}
use Rattle.values.specs.declared.calendar.TimeOfDay.{TimeOfDay}
use Rattle.values.specs.declared.calendar.Duration.{Duration}
use Rattle.values.specs.declared.labels.Point.{Point}
use Rattle.values.specs.declared.labels.Descriptor.{Descriptor}
use Rattle.values.specs.declared.rates.Tariff.{Tariff}
use Rattle.values.specs.declared.rates.TaxRates.{TaxRates}
use Rattle.values.specs.declared.rates.Scenario.{Scenario}
use Rattle.values.specs.declared.terms.Carrier.{Carrier}
use Rattle.values.specs.declared.terms.Terms.{Terms}

-- what passes the test is made
pub checked_yes : {A : Type 0} (test : Bool) (make : test ≡ true → A) (e : test ≡ true) → checked test make ≡ Some (make e)
checked_yes true make e = ap (λ p. Some (make p)) (Bool-set true true refl e)
checked_yes false make e = absurd (false≢true e)

pub checked_no : {A : Type 0} (test : Bool) (make : test ≡ true → A) → test ≡ false → checked test make ≡ None
checked_no true make e = absurd (false≢true (sym e))
checked_no false make e = refl

pub some_is : {X : Type 0} {x y : X} → Some x ≡ Some y → x ≡ y
some_is e = cc

-- what was made passed the test
pub checked_was : {A : Type 0} (test : Bool) (make : test ≡ true → A) (a : A) → checked test make ≡ Some a → (e : test ≡ true) × (make e ≡ a)
checked_was true make a h = (refl, some_is h)
checked_was false make a h = let z : ◌≡◌ {A = ℕ} 0 1 = cc in absurd (omega arith)

-- a value is told by what it is made from
pub same_from : {A N : Type 0} (of : N → Option A) (num : A → N) → ((a : A) → of (num a) ≡ Some a) → (a b : A) → num a ≡ num b → a ≡ b
same_from of num back a b e = some_is (sym (back a) ∙ ap of e ∙ back b)

-- the value that a test lets through has the fact that the test gives
made : {A : Type 0} (P : Type 0) → IsProp P → (test : Bool) (fact : test ≡ true → P) (make : P → A) → test ≡ true → (p : P) → checked test (λ e. make (fact e)) ≡ Some (make p)
made P prop test fact make t p = checked_yes test (λ e. make (fact e)) t ∙ ap (λ q. Some (make q)) (prop (fact t) p)

month_prop : (n : ℕ) → IsProp (IsMonth n)
month_prop n u v = λ i. (le_prop u.0 v.0 i, le_prop u.1 v.1 i, le_prop u.2 v.2 i, le_prop u.3 v.3 i)

day_prop : (n : ℕ) → IsProp (IsDay n)
day_prop n u v = λ i. (month_prop _ u.0 v.0 i, le_prop u.1 v.1 i, le_prop u.2 v.2 i)

time_prop : (n : ℕ) → IsProp (IsTime n)
time_prop n u v = λ i. (le_prop u.0 v.0 i, le_prop u.1 v.1 i, le_prop u.2 v.2 i)

scenario_prop : (m g l : ℕ) → IsProp (IsScenario m g l)
scenario_prop m g l u v = λ i. (le_prop u.0 v.0 i, le_prop u.1 v.1 i, le_prop u.2 v.2 i)

carrier_prop : (n : ℕ) → IsProp (IsCarrier n)
carrier_prop n u v = λ i. (le_prop u.0 v.0 i, le_prop u.1 v.1 i)

pub month_back : (a : Month) → month_of a.number ≡ Some a
month_back a =
    made (IsMonth a.number) (month_prop a.number) (is_month a.number) (month_range a.number) (λ p. record { number = a.number; ok = p }) (month_test a.number a.ok) a.ok

pub day_back : (a : Day) → day_of a.number ≡ Some a
day_back a =
    made (IsDay a.number) (day_prop a.number) (is_day a.number) (day_range a.number) (λ p. record { number = a.number; ok = p }) (day_test a.number a.ok) a.ok

pub time_back : (a : TimeOfDay) → time_of a.number ≡ Some a
time_back a =
    made (IsTime a.number) (time_prop a.number) (is_time a.number) (time_range a.number) (λ p. record { number = a.number; ok = p }) (time_test a.number a.ok) a.ok

-- over any type whose values are a number and a fact of it
pub same : {V : Type 0} (P : ℕ → Type 0) (make : ((n : ℕ) × P n) → V) → ((n : ℕ) → IsProp (P n)) → (a b : (n : ℕ) × P n) → a.0 ≡ b.0 → make a ≡ make b
same P make prop a b e = ap make (Σ_prop_path prop e)

pub same_duration : (a b : Duration) → a.seconds ≡ b.seconds → a ≡ b
same_duration a b e = same (λ n. n ≤ 3599999) (λ p. record { seconds = p.0; ok = p.1 }) (λ n. le_prop) (a.seconds, a.ok) (b.seconds, b.ok) e

-- a duration is made from HHHMMSS
pub duration_made : (n : ℕ) (d : Duration) → is_duration n ≡ true → d.seconds ≡ seconds_of n → duration_of n ≡ Some d
duration_made n d t e =
    checked_yes (is_duration n) (λ p. record { seconds = seconds_of n; ok = duration_range n p }) t
    ∙ ap Some (same_duration (record { seconds = seconds_of n; ok = duration_range n t }) d (sym e))

pub point_back : (a : Point) → point_of a.number ≡ Some a
point_back a = checked_yes (is_point_number a.number) (λ e. record { number = a.number; ok = e }) a.ok

pub descriptor_back : (a : Descriptor) → descriptor_of a.number ≡ Some a
descriptor_back a = checked_yes (is_descriptor_number a.number) (λ e. record { number = a.number; ok = e }) a.ok

pub tariff_back : (a : Tariff) → tariff_of a.number ≡ Some a
tariff_back a =
    made (a.number ≤ 9999999) le_prop (is_tariff a.number) (leb-true a.number 9999999) (λ p. record { number = a.number; ok = p }) (le-leb a.number 9999999 a.ok) a.ok

pub rates_back : (a : TaxRates) → rates_of a.pis a.icms ≡ Some a
rates_back a =
    made (a.pis + a.icms ≤ 50000) le_prop (are_rates a.pis a.icms) (leb-true (a.pis + a.icms) 50000) (λ p. record { pis = a.pis; icms = a.icms; ok = p })
    (le-leb (a.pis + a.icms) 50000 a.ok) a.ok

pub scenario_back : (a : Scenario) → scenario_of a.minimum a.message a.least ≡ Some a
scenario_back a =
    made (IsScenario a.minimum a.message a.least) (scenario_prop a.minimum a.message a.least) (is_scenario a.minimum a.message a.least)
    (scenario_range a.minimum a.message a.least) (λ p. record { minimum = a.minimum; message = a.message; least = a.least; ok = p })
    (scenario_test a.minimum a.message a.least a.ok) a.ok

pub carrier_back : (a : Carrier) → carrier_of a.code ≡ Some a
carrier_back a =
    made (IsCarrier a.code) (carrier_prop a.code) (is_carrier a.code) (carrier_range a.code) (λ p. record { code = a.code; ok = p }) (carrier_test a.code a.ok) a.ok

pub terms_back : (a : Terms) → terms_of a.creditor a.debtor a.back a.rates ≡ Some a
terms_back a =
    made (a.back ≤ 2) le_prop (is_back a.back) (leb-true a.back 2) (λ p. record { creditor = a.creditor; debtor = a.debtor; back = a.back; rates = a.rates; ok = p })
    (le-leb a.back 2 a.ok) a.ok

pub same_month : (a b : Month) → a.number ≡ b.number → a ≡ b
same_month = same_from month_of (λ x. x.number) month_back

pub same_day : (a b : Day) → a.number ≡ b.number → a ≡ b
same_day = same_from day_of (λ x. x.number) day_back

pub same_time : (a b : TimeOfDay) → a.number ≡ b.number → a ≡ b
same_time = same_from time_of (λ x. x.number) time_back

pub same_point : (a b : Point) → a.number ≡ b.number → a ≡ b
same_point = same_from point_of (λ x. x.number) point_back

pub same_descriptor : (a b : Descriptor) → a.number ≡ b.number → a ≡ b
same_descriptor = same_from descriptor_of (λ x. x.number) descriptor_back

pub same_tariff : (a b : Tariff) → a.number ≡ b.number → a ≡ b
same_tariff = same_from tariff_of (λ x. x.number) tariff_back
