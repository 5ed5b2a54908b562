-- What the fields of a row say, and which rows are well formed. A field from i to j has the bytes i to j - 1 of the row.
use Rattle.std.specs.Prelude.{ℕ, Bool, ◌&&◌, List, is_some, Option}
use Rattle.std.specs.List.{between}
use Rattle.digits.specs.Positional.{numeral}
use Rattle.values.specs.Checked.{and_then, numbered}
use Rattle.values.specs.Values.{carrier_of, rates_of, terms_of, scenario_of, descriptor_in, point_in, day_in, tariff_in}
use Rattle.values.specs.declared.rates.Scenario.{Scenario}
use Rattle.values.specs.declared.rates.TaxRates.{TaxRates}
use Rattle.values.specs.declared.terms.Carrier.{Carrier}
use Rattle.values.specs.declared.terms.Terms.{Terms}
use Rattle.agreement.specs.declared.parts.Part.{Part}
use Rattle.agreement.specs.declared.parts.Part.TheVariants.{Parties, Scenarios, Tariffs}

-- PART: creditor and debtor (three digits each), months back (one), PIS/COFINS and ICMS rates (five each)
abbrev pub carrier_in : List ℕ → Option Carrier
carrier_in cs = numbered 3 carrier_of cs

abbrev pub rates_in : List ℕ → Option TaxRates
rates_in cs = and_then (numeral 5 (between 0 5 cs)) (λ p. and_then (numeral 5 (between 5 10 cs)) (λ i. rates_of p i))

abbrev pub terms_in : List ℕ → Option Terms
terms_in row =
    and_then (carrier_in (between 0 3 row)) (λ c.
    and_then (carrier_in (between 3 6 row)) (λ d.
    and_then (numeral 1 (between 6 7 row)) (λ b.
    and_then (rates_in (between 7 17 row)) (λ r. terms_of c d b r))))

-- CENA: descriptor (five bytes), minimum, message and least billed (three digits each)
abbrev pub scenario_in : List ℕ → Option Scenario
scenario_in cs =
    and_then (numeral 3 (between 0 3 cs)) (λ m.
    and_then (numeral 3 (between 3 6 cs)) (λ g.
    and_then (numeral 3 (between 6 9 cs)) (λ l. scenario_of m g l)))

abbrev pub is_scenario_row : List ℕ → Bool
is_scenario_row row = is_some (descriptor_in (between 0 5 row)) && is_some (scenario_in (between 5 14 row))

-- TARI: point (ten bytes), descriptor (five), first day AAAAMMDD, tariff (seven digits)
abbrev pub is_tariff_row : List ℕ → Bool
is_tariff_row row =
    is_some (point_in (between 0 10 row))
    && (is_some (descriptor_in (between 10 15 row))
    && (is_some (day_in (between 15 23 row)) && is_some (tariff_in (between 23 30 row))))

-- the well-formed rows of each part
abbrev pub is_row : Part → List ℕ → Bool
is_row Parties row = is_some (terms_in row)
is_row Scenarios row = is_scenario_row row
is_row Tariffs row = is_tariff_row row
