-- What the booked records of an account bring: one call each, with its tenths and its start, in one line and one day.
use Rattle.std.specs.Prelude.{ℕ, ◌*◌, Bool, true, false, ◌&&◌, List, [], ◌∷◌, map, Ok, Err, sum_by, filter, Result, ◌==◌, nat_le}
use Rattle.std.specs.Ordering.{is_eq}
use Rattle.cdr.specs.Reader.{read_record}
use Rattle.cdr.specs.declared.call.CallRecord.{CallRecord}
use Rattle.cdr.specs.declared.faults.Charged.{Charged}
use Rattle.cdr.specs.declared.faults.RecordFault.{RecordFault}
use Rattle.ledger.specs.Rows.{line_keys, day_keys}
use Rattle.ledger.specs.declared.day.DayKey.{DayKey}
use Rattle.ledger.specs.declared.line.LineKey.{LineKey}
use Rattle.statement.specs.Account.{Entry}
use Rattle.statement.specs.Faults.{take_number, take_sequential}
use Rattle.statement.specs.declared.faults.TakeFault.{TakeFault}
use Rattle.statement.specs.declared.posting.Booked.{Booked}
use Rattle.statement.specs.declared.posting.Posting.{Posting}

-- a booked record brings what its answer says, and the start that it shows
abbrev pub brought : Booked → Result CallRecord (Charged RecordFault) → List Posting → List Posting
brought b (Ok call) ps = record { key = b.key; day = b.day; time = call.time; tenths = b.tenths } ∷ ps
brought b (Err f) ps = ps

abbrev pub added : List ℕ → Result Booked TakeFault → List Posting → List Posting
added r (Ok b) ps = brought b (read_record r) ps
added r (Err f) ps = ps

abbrev pub postings : List Entry → List Posting
postings [] = []
postings (e ∷ a) = added e.bytes e.answer (postings a)

-- the line and the day of what is booked
abbrev pub line_of : Posting → LineKey
line_of p = p.key

abbrev pub day_of : Posting → DayKey
day_of p = record { day = p.day; point = p.key.point }

abbrev pub in_line : LineKey → List Posting → List Posting
in_line k ps = filter (λ p. is_eq (line_keys.order (line_of p) k)) ps

abbrev pub in_day : DayKey → List Posting → List Posting
in_day k ps = filter (λ p. is_eq (day_keys.order (day_of p) k)) ps

abbrev pub tenths_of : List Posting → ℕ
tenths_of ps = sum_by (λ p. p.tenths.count) ps

-- in ten-millionths of a real
abbrev pub worth : List Posting → ℕ
worth ps = sum_by (λ p. p.tenths.count * p.key.tariff.number) ps

abbrev pub starts : List Posting → List ℕ
starts ps = map (λ p. p.time.number) ps

-- answers 0, and 2 to 13
abbrev pub is_booked : Result Booked TakeFault → Bool
is_booked (Ok b) = true
is_booked (Err f) = false

abbrev pub is_refused : Result Booked TakeFault → Bool
is_refused (Ok b) = false
is_refused (Err f) = nat_le 2 (take_number f) && nat_le (take_number f) 13

abbrev pub refused_with : ℕ → Result Booked TakeFault → Bool
refused_with n (Ok b) = false
refused_with n (Err f) = n == take_number f

abbrev pub sequential_of : Result Booked TakeFault → ℕ
sequential_of (Ok b) = 0
sequential_of (Err f) = take_sequential f

-- the sequentials of the records that a number refused
abbrev pub sequentials : ℕ → List Entry → List ℕ
sequentials n a = map (λ e. sequential_of e.answer) (filter (λ e. refused_with n e.answer) a)
