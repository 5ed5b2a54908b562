-- What a call record says, and which fault the reader finds in it. Columns count from 1.
use Rattle.std.specs.Prelude.{ℕ, ◌-◌, Bool, cond, not, ◌&&◌, ◌||◌, List, length, take, drop, Some, None, Ok, Err, Option, Result, ◌==◌, nat_lt, slice_index}
use Rattle.digits.specs.Positional.{numeral}
use Rattle.values.specs.Checked.{and_then}
use Rattle.values.specs.Values.{day_in, time_in, duration_in, point_in, descriptor_in}
use Rattle.cdr.specs.declared.call.CallRecord.{CallRecord}
use Rattle.cdr.specs.declared.faults.Charged.{Charged}
use Rattle.cdr.specs.declared.faults.RecordFault.{RecordFault}
use Rattle.cdr.specs.declared.faults.RecordFault.TheVariants.{Length, Category, Selection, Sliced, Cause}
use Rattle.cdr.specs.declared.fields.Field.{Field}
use Rattle.cdr.specs.Faults.{charge, charged_to, malformed_at}
use Rattle.cdr.specs.Fields.{field_number, field_column}

-- the bytes of columns a to e
abbrev pub columns : ℕ → ℕ → List ℕ → List ℕ
columns a e bs = take (e - (a - 1)) (drop (a - 1) bs)

-- the byte of a column
abbrev pub column : ℕ → List ℕ → ℕ
column a bs = slice_index bs (a - 1)

-- ten digits that are not all zero
abbrev pub sequential_in : List ℕ → Option ℕ
sequential_in cs = and_then (numeral 10 cs) (λ n. cond (nat_lt 0 n) (Some n) None)

-- a malformed field, by its number and first column, charged to a sequential
abbrev pub unsound : Field → ℕ → Charged RecordFault
unsound f s = malformed_at (field_number f) (field_column f) s

-- a sound field goes on to the next; any other is malformed, charged to the record's sequential
abbrev pub field : {A B : Type 0} → Field → ℕ → Option A → (A → Result B (Charged RecordFault)) → Result B (Charged RecordFault)
field f s None next = Err (unsound f s)
field f s (Some v) next = next v

-- the fields of a record of 129 bytes, in the order in which they are judged
abbrev pub read_fields : List ℕ → Result CallRecord (Charged RecordFault)
read_fields bs =
    field Field.Sequential 0 (sequential_in (columns 1 10 bs)) (λ s.
    field Field.Date s (day_in (columns 32 39 bs)) (λ day.
    field Field.Time s (time_in (columns 40 45 bs)) (λ time.
    field Field.Duration s (duration_in (columns 66 72 bs)) (λ duration.
    field Field.Point s (point_in (columns 73 82 bs)) (λ point.
    field Field.Descriptor s (descriptor_in (columns 83 87 bs)) (λ descriptor.
    field Field.Category s (numeral 2 (columns 101 102 bs)) (λ category.
    Ok (record { sequential = s; day = day; time = time; duration = duration; point = point; descriptor = descriptor }))))))))

-- category 03, in columns 101 and 102: a test call
abbrev pub is_test : List ℕ → Bool
is_test bs = column 101 bs == 48 && column 102 bs == 51

-- end of selection 01, in columns 103 and 104
abbrev pub is_answered : List ℕ → Bool
is_answered bs = column 103 bs == 48 && column 104 bs == 49

-- the exit cause, in column 105: after 0 and 4 the call ended, and at 1 and 5 the exchange cut it
abbrev pub is_end : ℕ → Bool
is_end c = c == 48 || c == 52

abbrev pub is_cut : ℕ → Bool
is_cut c = c == 49 || c == 53

-- why a record with sound fields is refused, the lowest number first
abbrev pub judged : List ℕ → Result (Unit {0}) RecordFault
judged bs =
    cond (is_test bs) (Err Category)
    (cond (not (is_answered bs)) (Err Selection)
    (cond (is_cut (column 105 bs)) (Err Sliced)
    (cond (is_end (column 105 bs)) (Ok tt) (Err Cause))))

-- the same call where the second result lets it through
abbrev pub unless : {T E : Type 0} → Result (Unit {0}) E → T → Result T E
unless (Ok u) x = Ok x
unless (Err e) x = Err e

abbrev pub judged_call : List ℕ → Result CallRecord (Charged RecordFault) → Result CallRecord (Charged RecordFault)
judged_call bs (Ok c) = charge c.sequential (unless (judged bs) c)
judged_call bs (Err e) = Err e

-- a record that is not 129 bytes long has no sequential
unfoldable pub read_record : List ℕ → Result CallRecord (Charged RecordFault)
read_record bs = cond (length bs == 129) (judged_call bs (read_fields bs)) (Err (charged_to 0 (Length (length bs))))
