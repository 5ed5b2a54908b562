-- The parts of an agreement file: names, widths of rows, keys by which rows rise, and limits.
use Rattle.std.specs.Prelude.{ℕ, List, codes}
use Rattle.agreement.specs.declared.parts.Part.{Part}
use Rattle.agreement.specs.declared.parts.Part.TheVariants.{Parties, Scenarios, Tariffs}

abbrev pub part_number : Part → ℕ
part_number Parties = 1
part_number Scenarios = 2
part_number Tariffs = 3

abbrev pub part_name : Part → List ℕ
part_name Parties = codes "PART"
part_name Scenarios = codes "CENA"
part_name Tariffs = codes "TARI"

abbrev pub row_width : Part → ℕ
row_width Parties = 17
row_width Scenarios = 14
row_width Tariffs = 30

-- rows rise by so many of their first bytes: CENA by the descriptor, TARI by point, descriptor and first day
abbrev pub key_length : Part → ℕ
key_length Parties = 17
key_length Scenarios = 5
key_length Tariffs = 23

abbrev pub least_rows : Part → ℕ
least_rows Parties = 1
least_rows Scenarios = 0
least_rows Tariffs = 0

abbrev pub most_rows : Part → ℕ
most_rows Parties = 1
most_rows Scenarios = 200
most_rows Tariffs = 1900
