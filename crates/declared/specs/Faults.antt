-- Number and place of each refusal of the reader.
use Rattle.std.specs.Prelude.{ℕ}
use Rattle.declared.specs.declared.faults.Place.{Place}
use Rattle.declared.specs.declared.faults.ReadFault.{ReadFault}
use Rattle.declared.specs.declared.faults.ReadFault.TheVariants.{Length, Malformed, Unsound}

abbrev pub fault_number : ReadFault → ℕ
fault_number (Length n) = 18
fault_number (Malformed line field) = 19
fault_number (Unsound line) = 20

abbrev pub fault_place : ReadFault → Place
fault_place (Length n) = Place.Length n
fault_place (Malformed line field) = Place.Field line field
fault_place (Unsound line) = Place.Line line
