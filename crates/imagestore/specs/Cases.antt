-- Images worked by hand.
use Rattle.std.specs.Prelude.{◌≡◌, ℕ, List, ◌++◌, Some, Ok, Err, codes, Option, Result}
use Rattle.values.specs.Checked.{and_then}
use Rattle.images.specs.Fields.{line_in, day_row_in}
use Rattle.images.specs.Format.{checked}
use Rattle.images.specs.declared.faults.ImageFault.{ImageFault}
use Rattle.images.specs.declared.faults.ImageFault.TheVariants.{Count, Row}
use Rattle.imagestore.specs.Images.{put_bytes, line_row, line_image, day_row, day_image}

-- one call of 22 tenths in March 2024, and the two of them together
abbrev pub one_call : List ℕ
one_call = codes "202403SPO01      LOCN00000000000100000000000220050000"

abbrev pub two_calls : List ℕ
two_calls = codes "202403SPO01      LOCN00000000000200000000000440050000"

-- in a month that there is not
abbrev pub no_month : List ℕ
no_month = codes "202413SPO01      LOCN00000000000100000000000220050000"

abbrev pub line_check : List ℕ → Result (Unit {0}) ImageFault
line_check bs = checked line_row line_image bs

-- an image after a put of the row that these bytes hold
abbrev pub with_line : List ℕ → List ℕ → Option (List ℕ)
with_line row bs = and_then (line_in row) (λ r. Some (put_bytes line_row line_image r bs))

-- counts and rows that pass or are refused, and bytes after puts: into an empty image with old bytes in its first row and two bytes past it, of the key held, and into an image that is full
unfoldable pub LinesAsWorked : Type 0
LinesAsWorked =
    (line_check (codes "0000000") ≡ Ok tt)
    × (line_check (codes "000000") ≡ Err Count)
    × (line_check (codes "00000 0") ≡ Err Count)
    × (line_check (codes "0000002" ++ one_call) ≡ Err Count)
    × (line_check (codes "0000001" ++ (one_call ++ codes "??")) ≡ Ok tt)
    × (line_check (codes "0000001" ++ no_month) ≡ Err (Row 1))
    × (line_check (codes "0000002" ++ (one_call ++ two_calls)) ≡ Err (Row 2))
    × (with_line one_call (codes "0000000" ++ (no_month ++ codes "??")) ≡ Some (codes "0000001" ++ (one_call ++ codes "??")))
    × (with_line one_call (codes "0000001" ++ (one_call ++ codes "??")) ≡ Some (codes "0000001" ++ (two_calls ++ codes "??")))
    × (with_line one_call (codes "0000000??") ≡ Some (codes "0000000??"))

-- a day with one call, with a later one, and with both
abbrev pub early : List ℕ
early = codes "20240310SPO01     0000000000010000000000022080000080000"

abbrev pub late : List ℕ
late = codes "20240310SPO01     0000000000010000000000005213000213000"

abbrev pub both : List ℕ
both = codes "20240310SPO01     0000000000020000000000027080000213000"

abbrev pub day_check : List ℕ → Result (Unit {0}) ImageFault
day_check bs = checked day_row day_image bs

abbrev pub with_day : List ℕ → List ℕ → Option (List ℕ)
with_day row bs = and_then (day_row_in row) (λ r. Some (put_bytes day_row day_image r bs))

unfoldable pub DaysAsWorked : Type 0
DaysAsWorked =
    (day_check (codes "0000001" ++ early) ≡ Ok tt)
    × (day_check (codes "0000002" ++ (early ++ late)) ≡ Err (Row 2))
    × (with_day late (codes "0000000" ++ (both ++ codes "??")) ≡ Some (codes "0000001" ++ (late ++ codes "??")))
    × (with_day early (codes "0000001" ++ late) ≡ Some (codes "0000001" ++ both))
