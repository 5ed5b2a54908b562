-- The fields of a record that a refusal names: number, and first column from 1.
use Rattle.std.specs.Prelude.{ℕ}
use Rattle.cdr.specs.declared.fields.Field.{Field}
use Rattle.cdr.specs.declared.fields.Field.TheVariants.{Sequential, Date, Time, Duration, Point, Descriptor, Category, Selection, Cause}

abbrev pub field_number : Field → ℕ
field_number Sequential = 1
field_number Date = 3
field_number Time = 4
field_number Duration = 6
field_number Point = 7
field_number Descriptor = 8
field_number Category = 10
field_number Selection = 11
field_number Cause = 12

abbrev pub field_column : Field → ℕ
field_column Sequential = 1
field_column Date = 32
field_column Time = 40
field_column Duration = 66
field_column Point = 73
field_column Descriptor = 83
field_column Category = 101
field_column Selection = 103
field_column Cause = 105
