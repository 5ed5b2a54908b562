-- The worked images are as stated.
use Rattle.std.proofs.Common.{refl}
use Rattle.digits.specs.Positional.{places}
use Rattle.images.specs.Fields.{traffic_bytes, line_in, line_bytes, day_row_in, day_bytes}
use Rattle.imagestore.specs.Cases.{LinesAsWorked, DaysAsWorked}

pub lines_as_worked : LinesAsWorked
unfolding LinesAsWorked places traffic_bytes line_in line_bytes
lines_as_worked = (refl, refl, refl, refl, refl, refl, refl, refl, refl, refl)

pub days_as_worked : DaysAsWorked
unfolding DaysAsWorked places traffic_bytes day_row_in day_bytes
days_as_worked = (refl, refl, refl, refl)
