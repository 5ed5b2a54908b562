-- Number and place of each refusal of a contest.
use Rattle.std.specs.Prelude.{ℕ, Some, None, Option}
use Rattle.declared.specs.Faults.{fault_number, fault_place}
use Rattle.declared.specs.declared.faults.Place.{Place}
use Rattle.declared.specs.declared.faults.ReadFault.{ReadFault}
use Rattle.verdicts.specs.declared.faults.ContestFault.{ContestFault}
use Rattle.verdicts.specs.declared.faults.ContestFault.TheVariants.{Read, Unlike, Short}

abbrev pub as_read : ReadFault → ContestFault
as_read f = Read f

abbrev pub contest_number : ContestFault → ℕ
contest_number (Read f) = fault_number f
contest_number Unlike = 21
contest_number Short = 22

abbrev pub contest_place : ContestFault → Option Place
contest_place (Read f) = Some (fault_place f)
contest_place Unlike = None
contest_place Short = None
