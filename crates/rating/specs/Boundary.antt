-- Calls at the boundaries of two scenarios: a duration HHHMMSS, and its tenths, or none where it does not count.
use Rattle.std.specs.Prelude.{◌≡◌, ℕ, Bool, true, false, ◌&&◌, List, [], ◌∷◌, Some, None, Option, ◌==◌}
use Rattle.values.specs.Checked.{and_then}
use Rattle.values.specs.Values.{scenario_of, duration_of}
use Rattle.values.specs.declared.rates.Scenario.{Scenario}
use Rattle.rating.specs.declared.tenths.Tenths.{Tenths}
use Rattle.rating.specs.Charge.{charge}

-- a call counts from 4 seconds on and is billed 30 at least
abbrev pub locn : Option Scenario
locn = scenario_of 4 0 30

-- a collect call: a message of 12 seconds, and 6 seconds heard to count
abbrev pub locc : Option Scenario
locc = scenario_of 6 12 30

pub record Case : Type 0 where
  pub scenario : Option Scenario
  pub duration : ℕ
  pub expected : Option ℕ

abbrev pub case : Option Scenario → ℕ → Option ℕ → Case
case s d t = record { scenario = s; duration = d; expected = t }

abbrev pub cases : List Case
cases =
    case locn 3 None
    ∷ case locn 4 (Some 5)
    ∷ case locn 30 (Some 5)
    ∷ case locn 31 (Some 6)
    ∷ case locc 17 None
    ∷ case locc 18 (Some 5)
    ∷ case locn 9995959 (Some 600000)
    ∷ []

abbrev pub is_count : Option Tenths → Option ℕ → Bool
is_count None None = true
is_count None (Some n) = false
is_count (Some t) None = false
is_count (Some t) (Some n) = t.count == n

abbrev pub answer : Case → Option Tenths
answer c = and_then c.scenario (λ s. and_then (duration_of c.duration) (charge s))

abbrev pub all_as_expected : List Case → Bool
all_as_expected [] = true
all_as_expected (c ∷ cs) = is_count (answer c) c.expected && all_as_expected cs

abbrev pub AtTheBoundary : Type 0
AtTheBoundary = all_as_expected cases ≡ true
