-- Number and place of each fault of rating.
use Rattle.std.specs.Prelude.{ℕ}
use Rattle.cdr.specs.declared.faults.Place.{Place}
use Rattle.cdr.specs.declared.fields.Field.TheVariants.{Date, Duration, Point, Descriptor}
use Rattle.rating.specs.declared.faults.RatingFault.{RatingFault}
use Rattle.rating.specs.declared.faults.RatingFault.TheVariants.{Month, NoScenario, TooShort, NoTariff}

abbrev pub rating_number : RatingFault → ℕ
rating_number Month = 8
rating_number NoScenario = 9
rating_number TooShort = 10
rating_number NoTariff = 11

abbrev pub rating_place : RatingFault → Place
rating_place Month = Place.Field Date
rating_place NoScenario = Place.Field Descriptor
rating_place TooShort = Place.Field Duration
rating_place NoTariff = Place.Field Point
