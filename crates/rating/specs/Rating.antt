-- What rating answers for a call: month, scenario, whether it counts, and tariff, in this order.
use Rattle.std.specs.Prelude.{◌/◌, cond, Some, None, Ok, Err, Option, Result}
use Rattle.values.specs.Calendar.{in_window}
use Rattle.values.specs.declared.calendar.Day.{Day}
use Rattle.values.specs.declared.calendar.Month.{Month}
use Rattle.values.specs.declared.labels.Descriptor.{Descriptor}
use Rattle.values.specs.declared.labels.Point.{Point}
use Rattle.values.specs.declared.rates.Scenario.{Scenario}
use Rattle.values.specs.declared.rates.Tariff.{Tariff}
use Rattle.values.specs.declared.terms.Terms.{Terms}
use Rattle.cdr.specs.declared.call.CallRecord.{CallRecord}
use Rattle.rating.specs.declared.book.TariffBook as TariffBook
use Rattle.rating.specs.declared.faults.RatingFault.{RatingFault}
use Rattle.rating.specs.declared.faults.RatingFault.TheVariants as Fault
use Rattle.rating.specs.declared.tenths.Rated.{Rated}
use Rattle.rating.specs.Charge.{charge}

-- a book's meaning
pub record Book : Type 0 where
  pub scenarios : Descriptor → Option Scenario
  pub tariffs : Point → Descriptor → Day → Option Tariff

abbrev pub book_of : {B : Type 0} → TariffBook.Ghosts B → B → Book
book_of book b = record { scenarios = book.scenarios b; tariffs = book.tariffs b }

-- go on with a value, or end with a fault
abbrev pub or_fault : {T U : Type 0} → RatingFault → Option T → (T → Result U RatingFault) → Result U RatingFault
or_fault f None next = Err f
or_fault f (Some x) next = next x

unfoldable pub rated_by : Book → Terms → Month → CallRecord → Result Rated RatingFault
rated_by b t reference c =
    cond (in_window reference.number t.back (c.day.number / 100))
    (or_fault Fault.NoScenario (b.scenarios c.descriptor) (λ scenario.
    or_fault Fault.TooShort (charge scenario c.duration) (λ tenths.
    or_fault Fault.NoTariff (b.tariffs c.point c.descriptor c.day) (λ tariff.
    Ok (record { tariff = tariff; tenths = tenths })))))
    (Err Fault.Month)
