-- The two tables of a tariff book: those of rows, and those of a file.
use Rattle.std.specs.Prelude.{◌≡◌, ℕ, ◌^◌, ◌<◌, ◌==◌, length, get_or, Bool, cond, ◌&&◌, List, [], ◌∷◌, Some, None, Ok, Err, Option, Result, nat_le, nat_lt}
use Rattle.std.specs.List.{between}
use Rattle.std.specs.Str.{bytes_eq}
use Rattle.digits.specs.Positional.{big_endian, bytes_of, decimal}
use Rattle.values.specs.Checked.{and_then}
use Rattle.values.specs.Values.{tariff_in}
use Rattle.values.specs.declared.calendar.Day.{Day}
use Rattle.values.specs.declared.labels.Descriptor.{Descriptor}
use Rattle.values.specs.declared.labels.Point.{Point}
use Rattle.values.specs.declared.rates.Scenario.{Scenario}
use Rattle.values.specs.declared.rates.Tariff.{Tariff}
use Rattle.values.specs.declared.terms.Terms.{Terms}
use Rattle.agreement.specs.declared.faults.AgreementFault.{AgreementFault}
use Rattle.agreement.specs.Agreement.{opened}
use Rattle.agreement.specs.Contents.{Bodies, contents}
use Rattle.agreement.specs.RowFields.{scenario_in}

-- CENA: a descriptor's scenario is that of the row with that descriptor
abbrev pub is_of : Descriptor → List ℕ → Bool
is_of d row = bytes_eq (between 0 5 row) (bytes_of 5 d.number)

abbrev pub scenario_among : Descriptor → List (List ℕ) → Option Scenario
scenario_among d [] = None
scenario_among d (row ∷ rows) = cond (is_of d row) (scenario_in (between 5 14 row)) (scenario_among d rows)

-- a field of w bytes has the bytes of a label exactly if it has the label's number
abbrev pub FieldsByNumber : Type 0
FieldsByNumber =
    (w n : ℕ) (cs : List ℕ) → length cs ≡ w → ((i : ℕ) → get_or cs i 0 < 256) → n < 256 ^ w
    → bytes_eq cs (bytes_of w n) ≡ (big_endian cs == n)

-- TARI: the first day of a row, and the rows of a point and a descriptor that begin not after a day
abbrev pub first_day : List ℕ → ℕ
first_day row = decimal (between 15 23 row)

abbrev pub begun : Point → Descriptor → Day → List ℕ → Bool
begun p d day row =
    bytes_eq (between 0 10 row) (bytes_of 10 p.number)
    && (bytes_eq (between 10 15 row) (bytes_of 5 d.number) && nat_le (first_day row) day.number)

-- of two rows the one with the later first day
abbrev pub later_of : List ℕ → Option (List ℕ) → Option (List ℕ)
later_of row None = Some row
later_of row (Some other) = cond (nat_lt (first_day row) (first_day other)) (Some other) (Some row)

-- among the rows that pass a test, the one with the latest first day
abbrev pub latest : (List ℕ → Bool) → List (List ℕ) → Option (List ℕ)
latest test [] = None
latest test (row ∷ rows) = cond (test row) (later_of row (latest test rows)) (latest test rows)

abbrev pub tariff_among : Point → Descriptor → Day → List (List ℕ) → Option Tariff
tariff_among p d day rows = and_then (latest (begun p d day) rows) (λ row. tariff_in (between 23 30 row))

-- the tables of the rows of CENA and TARI
unfoldable pub scenario_table : List (List ℕ) → Descriptor → Option Scenario
scenario_table rows d = scenario_among d rows

unfoldable pub tariff_table : List (List ℕ) → Point → Descriptor → Day → Option Tariff
tariff_table rows p d day = tariff_among p d day rows

-- the bodies that the contents of a file state
abbrev pub no_bodies : Bodies
no_bodies = record { parties = []; scenarios = []; tariffs = [] }

abbrev pub stated_bodies : Result Bodies AgreementFault → Bodies
stated_bodies (Ok b) = b
stated_bodies (Err e) = no_bodies

-- bytes that opening refuses have no bodies
abbrev pub if_ok : Result Terms AgreementFault → Bodies → Bodies
if_ok (Ok terms) b = b
if_ok (Err e) b = no_bodies

abbrev pub bodies_in : List ℕ → Bodies
bodies_in bs = if_ok (opened bs) (stated_bodies (contents bs))

-- the tables of a file, which are empty where opening refuses it
unfoldable pub scenarios_in : List ℕ → Descriptor → Option Scenario
scenarios_in bs = scenario_table (bodies_in bs).scenarios

unfoldable pub tariffs_in : List ℕ → Point → Descriptor → Day → Option Tariff
tariffs_in bs = tariff_table (bodies_in bs).tariffs
