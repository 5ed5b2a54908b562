-- The records of small inputs.
use Rattle.std.proofs.Common.{◌≡◌, [], ◌∷◌, refl}
use Rattle.intake.specs.Records.{records_of}

pub empty_input : records_of [] ≡ []
empty_input = refl

-- a record is the same, ended or not: an input that ends in a line feed has no record after it
pub ended : records_of (65 ∷ 66 ∷ 10 ∷ []) ≡ (65 ∷ 66 ∷ []) ∷ []
ended = refl

pub unended : records_of (65 ∷ 66 ∷ []) ≡ (65 ∷ 66 ∷ []) ∷ []
unended = refl

-- two line feeds in a row enclose a record of 0 bytes
pub enclosed : records_of (65 ∷ 10 ∷ 10 ∷ 66 ∷ []) ≡ (65 ∷ []) ∷ [] ∷ (66 ∷ []) ∷ []
enclosed = refl

-- a line feed at the start ends a record of 0 bytes
pub at_start : records_of (10 ∷ 65 ∷ []) ≡ [] ∷ (65 ∷ []) ∷ []
at_start = refl
