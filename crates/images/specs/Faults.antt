-- The number of the refusal, and the row that it returns.
use Rattle.std.specs.Prelude.{ℕ}
use Rattle.images.specs.declared.faults.ImageFault.{ImageFault}
use Rattle.images.specs.declared.faults.ImageFault.TheVariants.{Count, Row}

pub record Refusal : Type 0 where
  pub number : ℕ
  pub row : ℕ

abbrev pub refusal : ImageFault → Refusal
refusal Count = record { number = 26; row = 0 }
refusal (Row i) = record { number = 26; row = i }
