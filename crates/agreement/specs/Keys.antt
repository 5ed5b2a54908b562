-- The first bytes of a TARI row.
use Rattle.std.specs.Prelude.{ℕ, List, ◌++◌}
use Rattle.digits.specs.Positional.{bytes_of, write_decimal}
use Rattle.values.specs.declared.calendar.Day.{Day}
use Rattle.values.specs.declared.labels.Descriptor.{Descriptor}
use Rattle.values.specs.declared.labels.Point.{Point}

-- by which a question of a point, a descriptor and a day is asked
abbrev pub tariff_key : Point → Descriptor → Day → List ℕ
tariff_key p d y = bytes_of 10 p.number ++ (bytes_of 5 d.number ++ write_decimal 8 y.number)
