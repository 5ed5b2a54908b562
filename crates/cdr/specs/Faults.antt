-- The reader's faults: number and place of each, and the record that a fault is charged to.
use Rattle.std.specs.Prelude.{ℕ, Ok, Err, Result}
use Rattle.cdr.specs.declared.faults.Charged.{Charged}
use Rattle.cdr.specs.declared.faults.Place.{Place}
use Rattle.cdr.specs.declared.faults.RecordFault.{RecordFault}
use Rattle.cdr.specs.declared.faults.RecordFault.TheVariants.{Length, Malformed, Category, Selection, Sliced, Cause}
use Rattle.cdr.specs.declared.fields.Field.{Field}

abbrev pub record_number : RecordFault → ℕ
record_number (Length n) = 2
record_number (Malformed f c) = 3
record_number Category = 4
record_number Selection = 5
record_number Sliced = 6
record_number Cause = 7

abbrev pub record_place : RecordFault → Place
record_place (Length n) = Place.Length n
record_place (Malformed f c) = Place.Column f c
record_place Category = Place.Field Field.Category
record_place Selection = Place.Field Field.Selection
record_place Sliced = Place.Field Field.Cause
record_place Cause = Place.Field Field.Cause

abbrev pub charged_to : {F : Type 0} → ℕ → F → Charged F
charged_to s f = record { fault = f; sequential = s }

abbrev pub malformed_at : ℕ → ℕ → ℕ → Charged RecordFault
malformed_at field column s = charged_to s (Malformed field column)

abbrev pub charge : {T F : Type 0} → ℕ → Result T F → Result T (Charged F)
charge s (Ok x) = Ok x
charge s (Err f) = Err (charged_to s f)
