-- Lines and days: their sums, the order of their keys, their joins, and the rows that plain numbers stand for.
use Rattle.std.specs.Prelude.{◌≡◌, ℕ, ◌+◌, min, true, List, [], ◌∷◌, Some, Option, nat_le}
use Rattle.std.specs.declared.cmp.Ordering.{Ordering}
use Rattle.std.proofs.Common.{arith}
use Rattle.std.proofs.lemmas.Bool.{and_parts, leb-true}
use Rattle.values.specs.Checked.{checked, and_then}
use Rattle.values.specs.Values.{month_of, day_of, time_of, tariff_of, point_of, descriptor_of, earlier, later}
use Rattle.ledger.specs.Keys.{KeyOps}
use Rattle.ledger.specs.Lex.{keys_by, lex_order}
use Rattle.ledger.specs.Sums.{most_calls, most_tenths, IsTraffic, is_traffic}
use Rattle.ledger.specs.declared.traffic.Traffic.{Traffic}
use Rattle.ledger.specs.declared.line.LineKey.{LineKey}
use Rattle.ledger.specs.declared.line.LineRow.{LineRow}
use Rattle.ledger.specs.declared.line.LineCell.{LineCell}
use Rattle.ledger.specs.declared.day.DayKey.{DayKey}
use Rattle.ledger.specs.declared.day.DayRow.{DayRow}
use Rattle.ledger.specs.declared.day.DayCell.{DayCell}

-- numbers that pass their test are in range
pub traffic_range : (c t : ℕ) → is_traffic c t ≡ true → IsTraffic c t
traffic_range c t e = let p = and_parts (nat_le c most_calls) (nat_le t most_tenths) e in (leb-true c most_calls p.0, leb-true t most_tenths p.1)

abbrev pub traffic_of : ℕ → ℕ → Option Traffic
traffic_of c t = checked (is_traffic c t) (λ e. record { calls = c; tenths = t; ok = traffic_range c t e })

-- sums that stop at their largest values
abbrev pub stopped : ℕ → ℕ → Traffic
stopped c t = record { calls = min c most_calls; tenths = min t most_tenths; ok = (omega arith, omega arith) }

-- one call
abbrev pub of_call : ℕ → Traffic
of_call t = stopped 1 t

abbrev pub plus : Traffic → Traffic → Traffic
plus a b = stopped (a.calls + b.calls) (a.tenths + b.tenths)

-- month, point, descriptor, tariff
abbrev pub line_figures : LineKey → List ℕ
line_figures k = k.month.number ∷ (k.point.number ∷ (k.descriptor.number ∷ (k.tariff.number ∷ [])))

abbrev pub line_keys : KeyOps LineKey LineRow
line_keys = keys_by (λ r. r.key) line_figures

abbrev pub join_lines : LineRow → LineRow → LineRow
join_lines a b = record { key = a.key; traffic = plus a.traffic b.traffic }

abbrev pub line_of : LineCell → Option LineRow
line_of c =
    and_then (month_of c.month) (λ m.
    and_then (point_of c.point) (λ p.
    and_then (descriptor_of c.descriptor) (λ d.
    and_then (tariff_of c.tariff) (λ r.
    and_then (traffic_of c.calls c.tenths) (λ t.
    Some (record { key = record { month = m; point = p; descriptor = d; tariff = r }; traffic = t }))))))

abbrev pub line_cell : LineRow → LineCell
line_cell r = record {
  month = r.key.month.number;
  point = r.key.point.number;
  descriptor = r.key.descriptor.number;
  tariff = r.key.tariff.number;
  calls = r.traffic.calls;
  tenths = r.traffic.tenths;
}

abbrev pub line_cell_figures : LineCell → List ℕ
line_cell_figures c = c.month ∷ (c.point ∷ (c.descriptor ∷ (c.tariff ∷ [])))

-- how the key in a cell stands to a key
abbrev pub line_cell_order : LineCell → LineKey → Ordering
line_cell_order c k = lex_order (line_cell_figures c) (line_figures k)

-- day, point
abbrev pub day_figures : DayKey → List ℕ
day_figures k = k.day.number ∷ (k.point.number ∷ [])

abbrev pub day_keys : KeyOps DayKey DayRow
day_keys = keys_by (λ r. r.key) day_figures

abbrev pub join_days : DayRow → DayRow → DayRow
join_days a b = record {
  key = a.key;
  traffic = plus a.traffic b.traffic;
  earliest = earlier a.earliest b.earliest;
  latest = later a.latest b.latest;
}

abbrev pub day_row_of : DayCell → Option DayRow
day_row_of c =
    and_then (day_of c.day) (λ d.
    and_then (point_of c.point) (λ p.
    and_then (traffic_of c.calls c.tenths) (λ t.
    and_then (time_of c.earliest) (λ e.
    and_then (time_of c.latest) (λ l.
    Some (record { key = record { day = d; point = p }; traffic = t; earliest = e; latest = l }))))))

abbrev pub day_cell : DayRow → DayCell
day_cell r = record {
  day = r.key.day.number;
  point = r.key.point.number;
  calls = r.traffic.calls;
  tenths = r.traffic.tenths;
  earliest = r.earliest.number;
  latest = r.latest.number;
}

abbrev pub day_cell_figures : DayCell → List ℕ
day_cell_figures c = c.day ∷ (c.point ∷ [])

abbrev pub day_cell_order : DayCell → DayKey → Ordering
day_cell_order c k = lex_order (day_cell_figures c) (day_figures k)
