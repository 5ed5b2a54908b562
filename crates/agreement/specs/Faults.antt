-- Number, part and row of each refusal. Part 0 is none, and so is row 0.
use Rattle.std.specs.Prelude.{ℕ}
use Rattle.agreement.specs.declared.faults.AgreementFault.{AgreementFault}
use Rattle.agreement.specs.declared.faults.AgreementFault.TheVariants.{Length, Contents, Malformed, NotRising}
use Rattle.agreement.specs.Parts.{part_number}

pub record Refusal : Type 0 where
  pub number : ℕ
  pub part : ℕ
  pub row : ℕ

abbrev pub refusal : AgreementFault → Refusal
refusal Length = record { number = 23; part = 0; row = 0 }
refusal (Contents p) = record { number = 23; part = part_number p; row = 0 }
refusal (Malformed p i) = record { number = 24; part = part_number p; row = i }
refusal (NotRising p i) = record { number = 25; part = part_number p; row = i }
