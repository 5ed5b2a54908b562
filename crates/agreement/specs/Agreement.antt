-- The agreement file: its terms, or the refusal of lowest number.
use Rattle.std.specs.Prelude.{ℕ, List, Some, None, Ok, Err, Option, Result}
use Rattle.std.specs.Option.{ok_or}
use Rattle.values.specs.declared.terms.Terms.{Terms}
use Rattle.agreement.specs.declared.faults.AgreementFault.{AgreementFault}
use Rattle.agreement.specs.declared.faults.AgreementFault.TheVariants.{Malformed, NotRising}
use Rattle.agreement.specs.declared.parts.Part.{Part}
use Rattle.agreement.specs.declared.parts.Part.TheVariants.{Parties, Scenarios, Tariffs}
use Rattle.agreement.specs.Contents.{Bodies, contents, onward}
use Rattle.agreement.specs.Parts.{key_length}
use Rattle.agreement.specs.RowFields.{terms_in}
use Rattle.agreement.specs.Tables.{first_malformed, first_not_rising}

-- a refusal where a row is at fault
abbrev pub faulted : (ℕ → AgreementFault) → Option ℕ → Result (Unit {0}) AgreementFault
faulted fault None = Ok tt
faulted fault (Some row) = Err (fault row)

-- the terms of the PART row
abbrev pub stated_terms : List ℕ → Result Terms AgreementFault
stated_terms row = ok_or (terms_in row) (Malformed Parties 1)

abbrev pub well_formed : Part → List (List ℕ) → Result (Unit {0}) AgreementFault
well_formed part rows = faulted (Malformed part) (first_malformed part rows)

abbrev pub rising : Part → List (List ℕ) → Result (Unit {0}) AgreementFault
rising part rows = faulted (NotRising part) (first_not_rising (key_length part) rows)

-- The bodies in their order: first all rows are judged for their form, then those of CENA and TARI for their order.
abbrev pub judged : Bodies → Result Terms AgreementFault
judged b =
    onward (stated_terms b.parties) (λ terms.
    onward (well_formed Scenarios b.scenarios) (λ _.
    onward (well_formed Tariffs b.tariffs) (λ _.
    onward (rising Scenarios b.scenarios) (λ _.
    onward (rising Tariffs b.tariffs) (λ _. Ok terms)))))

-- what opening answers, for all bytes
unfoldable pub opened : List ℕ → Result Terms AgreementFault
opened bs = onward (contents bs) judged
