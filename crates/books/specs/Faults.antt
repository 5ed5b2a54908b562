-- The number of each refusal of a list.
use Rattle.std.specs.Prelude.{ℕ}
use Rattle.books.specs.declared.faults.ListFault.{ListFault}
use Rattle.books.specs.declared.faults.ListFault.TheVariants.{Listed, Full}

abbrev pub list_number : ListFault → ℕ
list_number Listed = 27
list_number Full = 27
