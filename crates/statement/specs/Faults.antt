-- Number and place of each fault of a take, and the sequential that it is charged to.
use Rattle.std.specs.Prelude.{ℕ, Some, None, Option}
use Rattle.cdr.specs.Faults.{record_number, record_place}
use Rattle.cdr.specs.declared.faults.Charged.{Charged}
use Rattle.cdr.specs.declared.faults.Place.{Place}
use Rattle.cdr.specs.declared.faults.RecordFault.{RecordFault}
use Rattle.rating.specs.Faults.{rating_number, rating_place}
use Rattle.rating.specs.declared.faults.RatingFault.{RatingFault}
use Rattle.statement.specs.declared.faults.StoreFault.{StoreFault}
use Rattle.statement.specs.declared.faults.StoreFault.TheVariants.{LinesFull, DaysFull}
use Rattle.statement.specs.declared.faults.TakeFault.{TakeFault}
use Rattle.statement.specs.declared.faults.TakeFault.TheVariants.{Spent, Record, Rating, Store}

abbrev pub store_number : StoreFault → ℕ
store_number LinesFull = 12
store_number DaysFull = 13

abbrev pub take_number : TakeFault → ℕ
take_number Spent = 1
take_number (Record c) = record_number c.fault
take_number (Rating c) = rating_number c.fault
take_number (Store c) = store_number c.fault

-- where in the record it lies, or none where the record is not the cause
abbrev pub take_place : TakeFault → Option Place
take_place Spent = None
take_place (Record c) = Some (record_place c.fault)
take_place (Rating c) = Some (rating_place c.fault)
take_place (Store c) = None

-- the sequential of the record that was refused, 0 for none
abbrev pub take_sequential : TakeFault → ℕ
take_sequential Spent = 0
take_sequential (Record c) = c.sequential
take_sequential (Rating c) = c.sequential
take_sequential (Store c) = c.sequential

abbrev pub lines_full : StoreFault
lines_full = LinesFull

abbrev pub days_full : StoreFault
days_full = DaysFull

abbrev pub as_record : Charged RecordFault → TakeFault
as_record c = Record c

abbrev pub as_rating : Charged RatingFault → TakeFault
as_rating c = Rating c

abbrev pub as_store : Charged StoreFault → TakeFault
as_store c = Store c
