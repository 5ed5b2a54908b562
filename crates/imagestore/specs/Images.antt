-- What an image means, and its bytes after each change.
use Rattle.std.specs.Prelude.{◌≡◌, ℕ, ◌+◌, ◌*◌, cond, List, [], Some, None, Ok, Err, Option, Result, nat_lt}
use Rattle.std.specs.Option.{unwrap_or}
use Rattle.digits.specs.Positional.{write_decimal}
use Rattle.ledger.specs.Keys.{KeyOps}
use Rattle.ledger.specs.Ledger.{Ledger, Kept, is_next, earlier, join_to}
use Rattle.ledger.specs.Rows.{line_keys, join_lines, day_keys, join_days}
use Rattle.ledger.specs.declared.row.Row as Row
use Rattle.ledger.specs.declared.line.LineKey.{LineKey}
use Rattle.ledger.specs.declared.line.LineRow.{LineRow}
use Rattle.ledger.specs.declared.day.DayKey.{DayKey}
use Rattle.ledger.specs.declared.day.DayRow.{DayRow}
use Rattle.images.specs.Arrivals.{arrived, place_of}
use Rattle.images.specs.Fields.{written, line_width, line_in, line_bytes, day_width, day_row_in, day_bytes}
use Rattle.images.specs.Format.{most_in, count_in, row_at, checked}
use Rattle.images.specs.declared.faults.ImageFault.{ImageFault}
use Rattle.images.specs.declared.row.ImageRow as ImageRow

-- how many rows the count states; none where it is bad
abbrev pub row_count : ℕ → List ℕ → ℕ
row_count w bs = unwrap_or (count_in w bs) 0

-- the ledger of an image: its rows put in their order of arrival, and the most
abbrev pub image_ledger : {K R : Type 0} → Row.Ghosts R K → ImageRow.Ghosts R K → List ℕ → Ledger R
image_ledger row image bs = record {
  rows = arrived row.keys row.joined (row_at image bs) (row_count image.WIDTH bs);
  most = most_in image.WIDTH bs;
}

-- the bytes that a store stands over: those of an image, and none of what the check refuses
abbrev pub if_sound : Result (Unit {0}) ImageFault → List ℕ → List ℕ
if_sound (Ok u) bs = bs
if_sound (Err e) bs = []

abbrev pub image_in : {K R : Type 0} → Row.Ghosts R K → ImageRow.Ghosts R K → List ℕ → List ℕ
image_in row image bs = if_sound (checked row image bs) bs

-- The law of an image in a store: it passes the check, or has no bytes.
abbrev pub Sound : {K R : Type 0} → Row.Ghosts R K → ImageRow.Ghosts R K → List ℕ → Type 0
Sound row image bs = image_in row image bs ≡ bs

abbrev pub KeptImage : {K R : Type 0} → Row.Ghosts R K → ImageRow.Ghosts R K → List ℕ → Type 0
KeptImage row image bs = Kept row.keys (image_ledger row image bs) (Sound row image bs)

-- the row written in the place of the row at index i, joined to it
abbrev pub joined_at : {K R : Type 0} → Row.Ghosts R K → ImageRow.Ghosts R K → List ℕ → ℕ → R → List ℕ
joined_at row image bs i r = written (7 + image.WIDTH * i) (image.bytes_of (join_to row.joined (row_at image bs i) r)) bs

-- the row written behind n rows, and then the count
abbrev pub appended : {K R : Type 0} → ImageRow.Ghosts R K → List ℕ → ℕ → R → List ℕ
appended image bs n r = written 0 (write_decimal 7 (n + 1)) (written (7 + image.WIDTH * n) (image.bytes_of r) bs)

abbrev pub put_at : {K R : Type 0} → Row.Ghosts R K → ImageRow.Ghosts R K → List ℕ → R → ℕ → Option ℕ → List ℕ
put_at row image bs r n (Some i) = joined_at row image bs i r
put_at row image bs r n None = cond (nat_lt n (most_in image.WIDTH bs)) (appended image bs n r) bs

-- the bytes after a put: the row of a held key is rewritten, a new row is appended if there is room, and nothing else changes
abbrev pub put_bytes : {K R : Type 0} → Row.Ghosts R K → ImageRow.Ghosts R K → R → List ℕ → List ℕ
put_bytes row image r bs =
    put_at row image bs r (row_count image.WIDTH bs) (place_of row.keys (row.keys.key_of r) (row_at image bs) (row_count image.WIDTH bs))

-- the next row once one more row is looked at
abbrev pub next_with : {K R : Type 0} → KeyOps K R → (R → R → R) → Option K → Option R → Option R → Option R
next_with o join after best None = best
next_with o join after best (Some h) = cond (is_next o after (o.key_of h)) (earlier o join h best) best

-- what line and day rows say of themselves
abbrev pub line_row : Row.Ghosts LineRow LineKey
line_row = record { keys = line_keys; joined = join_lines }

abbrev pub line_image : ImageRow.Ghosts LineRow LineKey
line_image = record { WIDTH = line_width; row_in = line_in; bytes_of = line_bytes }

abbrev pub day_row : Row.Ghosts DayRow DayKey
day_row = record { keys = day_keys; joined = join_days }

abbrev pub day_image : ImageRow.Ghosts DayRow DayKey
day_image = record { WIDTH = day_width; row_in = day_row_in; bytes_of = day_bytes }
