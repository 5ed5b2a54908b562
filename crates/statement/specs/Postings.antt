-- A rated call as it goes into its line and its day.
use Rattle.cdr.specs.declared.call.CallRecord.{CallRecord}
use Rattle.ledger.specs.Rows.{of_call}
use Rattle.ledger.specs.declared.day.DayRow.{DayRow}
use Rattle.ledger.specs.declared.line.LineRow.{LineRow}
use Rattle.rating.specs.declared.tenths.Rated.{Rated}
use Rattle.values.specs.Values.{month_of_day}
use Rattle.statement.specs.declared.posting.Booked.{Booked}
use Rattle.statement.specs.declared.posting.Posting.{Posting}

-- a call belongs to the month and day in which it starts
abbrev pub posting_of : CallRecord → Rated → Posting
posting_of c r = record {
  key = record { month = month_of_day c.day; point = c.point; descriptor = c.descriptor; tariff = r.tariff };
  day = c.day;
  time = c.time;
  tenths = r.tenths;
}

abbrev pub line_for : Posting → LineRow
line_for p = record { key = p.key; traffic = of_call p.tenths.count }

abbrev pub day_for : Posting → DayRow
day_for p = record {
  key = record { day = p.day; point = p.key.point };
  traffic = of_call p.tenths.count;
  earliest = p.time;
  latest = p.time;
}

abbrev pub booked_of : Posting → Booked
booked_of p = record { key = p.key; day = p.day; tenths = p.tenths }
