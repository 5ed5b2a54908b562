-- The contents entries, 16 bytes each: name (4), place of the body in bytes from 0 (six digits), rows (six digits).
use Rattle.std.specs.Prelude.{ℕ, ◌+◌, ◌*◌, cond, ◌&&◌, List, length, Some, None, Ok, Err, Option, Result, ◌==◌, nat_le, nat_lt}
use Rattle.std.specs.List.{between}
use Rattle.std.specs.Option.{ok_or}
use Rattle.std.specs.Str.{bytes_eq}
use Rattle.digits.specs.Positional.{numeral}
use Rattle.values.specs.Checked.{and_then}
use Rattle.agreement.specs.declared.faults.AgreementFault.{AgreementFault}
use Rattle.agreement.specs.declared.faults.AgreementFault.TheVariants as Fault
use Rattle.agreement.specs.declared.parts.Part.{Part}
use Rattle.agreement.specs.declared.parts.Part.TheVariants.{Parties, Scenarios, Tariffs}
use Rattle.agreement.specs.Parts.{part_name, row_width, least_rows, most_rows}
use Rattle.agreement.specs.Tables.{rows_in_part}

-- the second where the first is no refusal
abbrev pub onward : {A B E : Type 0} → Result A E → (A → Result B E) → Result B E
onward (Ok x) f = f x
onward (Err e) f = Err e

-- the rows that an entry states: none where its name is wrong, its place is not six digits giving the end of the body
-- before it, or its rows are not six digits within the part's limits
abbrev pub stated_rows : Part → ℕ → List ℕ → Option ℕ
stated_rows part place e =
    cond (bytes_eq (between 0 4 e) (part_name part))
    (and_then (numeral 6 (between 4 10 e)) (λ p.
    cond (p == place)
    (and_then (numeral 6 (between 10 16 e)) (λ n.
    cond (nat_le (least_rows part) n && nat_le n (most_rows part)) (Some n) None))
    None))
    None

-- a bad entry is refused by its part
abbrev pub entry_rows : Part → ℕ → List ℕ → Result ℕ AgreementFault
entry_rows part place e = ok_or (stated_rows part place e) (Fault.Contents part)

-- Where the bodies begin: they follow the entries in their order without gaps, and end the file.
abbrev pub parties_at : ℕ
parties_at = 48

abbrev pub scenarios_at : ℕ
scenarios_at = parties_at + row_width Parties

abbrev pub tariffs_at : ℕ → ℕ
tariffs_at n = scenarios_at + row_width Scenarios * n

abbrev pub ends_at : ℕ → ℕ → ℕ
ends_at n m = tariffs_at n + row_width Tariffs * m

-- the row of PART, and the rows of CENA and TARI
pub record Bodies : Type 0 where
  pub parties : List ℕ
  pub scenarios : List (List ℕ)
  pub tariffs : List (List ℕ)

-- those of a file with n rows of CENA and m of TARI
abbrev pub bodies_at : ℕ → ℕ → List ℕ → Bodies
bodies_at n m bs = record {
  parties = between parties_at scenarios_at bs;
  scenarios = rows_in_part Scenarios (between scenarios_at (tariffs_at n) bs);
  tariffs = rows_in_part Tariffs (between (tariffs_at n) (ends_at n m) bs);
}

-- where the length of the file is another, it is refused
abbrev pub sized : ℕ → ℕ → List ℕ → Result Bodies AgreementFault
sized n m bs = cond (length bs == ends_at n m) (Ok (bodies_at n m bs)) (Err Fault.Length)

-- the first bad entry is refused
abbrev pub entries : List ℕ → Result Bodies AgreementFault
entries bs =
    onward (entry_rows Parties parties_at (between 0 16 bs)) (λ _.
    onward (entry_rows Scenarios scenarios_at (between 16 32 bs)) (λ n.
    onward (entry_rows Tariffs (tariffs_at n) (between 32 48 bs)) (λ m. sized n m bs)))

-- and so is the length where the file is under 48 bytes
abbrev pub contents : List ℕ → Result Bodies AgreementFault
contents bs = cond (nat_lt (length bs) parties_at) (Err Fault.Length) (entries bs)
