-- The fields of rows in an image. A field from i to j has the bytes i to j - 1 of the row.
use Rattle.std.specs.Prelude.{ℕ, ◌+◌, cond, List, ◌++◌, length, take, drop, Some, None, Option, ◌==◌}
use Rattle.std.specs.List.{between}
use Rattle.digits.specs.Positional.{numeral, write_decimal, bytes_of}
use Rattle.values.specs.Checked.{and_then}
use Rattle.values.specs.Values.{month_in, day_in, time_in, point_in, descriptor_in, tariff_in}
use Rattle.ledger.specs.Rows.{traffic_of}
use Rattle.ledger.specs.declared.traffic.Traffic.{Traffic}
use Rattle.ledger.specs.declared.line.LineRow.{LineRow}
use Rattle.ledger.specs.declared.day.DayRow.{DayRow}

-- bytes in the place of as many others, from a place on
abbrev pub written : ℕ → List ℕ → List ℕ → List ℕ
written at bytes xs = take at xs ++ (bytes ++ drop (at + length bytes) xs)

-- calls (twelve digits), tenths (thirteen)
abbrev pub traffic_in : List ℕ → Option Traffic
traffic_in cs = and_then (numeral 12 (between 0 12 cs)) (λ c. and_then (numeral 13 (between 12 25 cs)) (λ t. traffic_of c t))

unfoldable pub traffic_bytes : Traffic → List ℕ
traffic_bytes t = write_decimal 12 t.calls ++ write_decimal 13 t.tenths

-- a line, 53 bytes: month AAAAMM, point (ten bytes), descriptor (five), calls and tenths, tariff (seven digits)
abbrev pub line_width : ℕ
line_width = 53

abbrev pub line_fields_in : List ℕ → Option LineRow
line_fields_in cs =
    and_then (month_in (between 0 6 cs)) (λ m.
    and_then (point_in (between 6 16 cs)) (λ p.
    and_then (descriptor_in (between 16 21 cs)) (λ d.
    and_then (traffic_in (between 21 46 cs)) (λ t.
    and_then (tariff_in (between 46 53 cs)) (λ r.
    Some (record { key = record { month = m; point = p; descriptor = d; tariff = r }; traffic = t }))))))

unfoldable pub line_in : List ℕ → Option LineRow
line_in cs = cond (length cs == line_width) (line_fields_in cs) None

unfoldable pub line_bytes : LineRow → List ℕ
line_bytes r =
    write_decimal 6 r.key.month.number
    ++ (bytes_of 10 r.key.point.number
    ++ (bytes_of 5 r.key.descriptor.number
    ++ (traffic_bytes r.traffic
    ++ write_decimal 7 r.key.tariff.number)))

-- a day, 55 bytes: day AAAAMMDD, point (ten bytes), calls and tenths, earliest and latest start HHMMSS
abbrev pub day_width : ℕ
day_width = 55

abbrev pub day_fields_in : List ℕ → Option DayRow
day_fields_in cs =
    and_then (day_in (between 0 8 cs)) (λ d.
    and_then (point_in (between 8 18 cs)) (λ p.
    and_then (traffic_in (between 18 43 cs)) (λ t.
    and_then (time_in (between 43 49 cs)) (λ e.
    and_then (time_in (between 49 55 cs)) (λ l.
    Some (record { key = record { day = d; point = p }; traffic = t; earliest = e; latest = l }))))))

unfoldable pub day_row_in : List ℕ → Option DayRow
day_row_in cs = cond (length cs == day_width) (day_fields_in cs) None

unfoldable pub day_bytes : DayRow → List ℕ
day_bytes r =
    write_decimal 8 r.key.day.number
    ++ (bytes_of 10 r.key.point.number
    ++ (traffic_bytes r.traffic
    ++ (write_decimal 6 r.earliest.number
    ++ write_decimal 6 r.latest.number)))
