-- An image: a count of seven digits, then rows of one width in their order of arrival. What lies past the last row is
-- never judged.
use Rattle.std.specs.Prelude.{ℕ, ◌+◌, ◌-◌, ◌*◌, ◌/◌, min, cond, List, length, take, Some, None, Ok, Err, Option, Result, nat_le, nat_lt}
use Rattle.std.specs.List.{between}
use Rattle.digits.specs.Positional.{numeral, write_decimal}
use Rattle.values.specs.Checked.{and_then}
use Rattle.ledger.specs.declared.row.Row as RowBound
use Rattle.images.specs.Arrivals.{first_fault}
use Rattle.images.specs.Fields.{written}
use Rattle.images.specs.declared.faults.ImageFault.{ImageFault}
use Rattle.images.specs.declared.faults.ImageFault.TheVariants.{Count, Row}
use Rattle.images.specs.declared.row.ImageRow as ImageRow

-- the bytes of the row at index i, from 0
abbrev pub slot_at : ℕ → ℕ → List ℕ → List ℕ
slot_at w i bs = between (7 + w * i) (7 + w * i + w) bs

-- the whole rows that fit after the count
abbrev pub whole_in : ℕ → List ℕ → ℕ
whole_in w bs = (length bs - 7) / w

-- the most rows: those that fit, and not above 9,999,999
abbrev pub most_in : ℕ → List ℕ → ℕ
most_in w bs = min (whole_in w bs) 9999999

-- the count, where it is seven digits and not above the most; none also where there are under seven bytes
abbrev pub count_in : ℕ → List ℕ → Option ℕ
count_in w bs = and_then (numeral 7 (take 7 bs)) (λ n. cond (nat_le n (most_in w bs)) (Some n) None)

-- a refusal where a row is at fault; rows count from 1
abbrev pub faulted : Option ℕ → Result (Unit {0}) ImageFault
faulted None = Ok tt
faulted (Some i) = Err (Row (i + 1))

-- the row at index i
abbrev pub row_at : {K R : Type 0} → ImageRow.Ghosts R K → List ℕ → ℕ → Option R
row_at image bs i = image.row_in (slot_at image.WIDTH i bs)

-- the answer to a check: the first row at fault among those that the count states, and row 0 where the count is bad
abbrev pub checked_rows : {K R : Type 0} → RowBound.Ghosts R K → ImageRow.Ghosts R K → List ℕ → Option ℕ → Result (Unit {0}) ImageFault
checked_rows row image bs None = Err Count
checked_rows row image bs (Some n) = faulted (first_fault row.keys row.joined (row_at image bs) n)

abbrev pub checked : {K R : Type 0} → RowBound.Ghosts R K → ImageRow.Ghosts R K → List ℕ → Result (Unit {0}) ImageFault
checked row image bs = checked_rows row image bs (count_in image.WIDTH bs)

-- an image made empty: only the count is written
abbrev pub blanked : List ℕ → Result (Unit {0}) ImageFault
blanked bs = cond (nat_lt (length bs) 7) (Err Count) (Ok tt)

abbrev pub blank_bytes : List ℕ → List ℕ
blank_bytes bs = cond (nat_lt (length bs) 7) bs (written 0 (write_decimal 7 0) bs)
