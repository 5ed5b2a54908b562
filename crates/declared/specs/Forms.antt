-- The form that each field of a line must have. Columns count from 1.
use Rattle.std.specs.Prelude.{ℕ, Bool, true, cond, ◌&&◌, List, [], ◌∷◌, ◌++◌, length, is_some, Some, None, Option, ◌==◌, nat_le, slice_index}
use Rattle.std.specs.List.{list_all}
use Rattle.std.specs.Str.{bytes_eq}
use Rattle.digits.specs.Positional.{numeral}
use Rattle.values.specs.Checked.{numbered}
use Rattle.values.specs.Values.{carrier_of, month_in, point_in, descriptor_in}
use Rattle.detraf.specs.Columns.{columns}
use Rattle.declared.specs.declared.forms.FieldForm.{FieldForm}
use Rattle.declared.specs.declared.forms.Form.{Form}
use Rattle.declared.specs.declared.forms.Form.TheVariants.{Code, Month, Point, Descriptor, Digits, Filled, Creditor, Debtor, Reference}

-- every byte is this one
abbrev pub all_are : ℕ → List ℕ → Bool
all_are b cs = list_all (λ c. c == b) cs

-- whether the bytes of a field have the form, in a file with this first line
abbrev pub holds : Form → List ℕ → List ℕ → Bool
holds Code first cs = is_some (numbered 3 carrier_of cs)
holds Month first cs = is_some (month_in cs)
holds Point first cs = is_some (point_in cs)
holds Descriptor first cs = is_some (descriptor_in cs)
holds Digits first cs = is_some (numeral (length cs) cs)
holds (Filled b) first cs = all_are b cs
holds Creditor first cs = bytes_eq cs (columns 1 3 first)
holds Debtor first cs = bytes_eq cs (columns 4 6 first)
holds Reference first cs = bytes_eq cs (columns 7 12 first)

-- a field by its number, its first and its last column
abbrev pub field : ℕ → ℕ → ℕ → Form → FieldForm
field n a e form = record { number = n; first = a; last = e; form = form }

-- whether a line has the form in the columns of the field
abbrev pub is_sound : List ℕ → List ℕ → FieldForm → Bool
is_sound first line f = holds f.form first (columns f.first f.last line)

-- the number of the first field that has not its form
abbrev pub first_malformed : List ℕ → List ℕ → List FieldForm → Option ℕ
first_malformed first line [] = None
first_malformed first line (f ∷ fs) = cond (is_sound first line f) (first_malformed first line fs) (Some f.number)

-- creditor, debtor and reference month: line 1 must have real ones, and later lines must have line 1's
abbrev pub head_forms : Bool → List FieldForm
head_forms is_first =
    cond is_first
    (field 1 1 3 Code ∷ (field 2 4 6 Code ∷ (field 3 7 12 Month ∷ [])))
    (field 1 1 3 Creditor ∷ (field 2 4 6 Debtor ∷ (field 3 7 12 Reference ∷ [])))

-- traffic month, point, type 00, descriptor, blank band, calls, tenths, tariff, net, PIS/COFINS, ICMS, gross, 0A hex
abbrev pub detail_forms : List FieldForm
detail_forms =
    field 4 13 18 Month
    ∷ field 5 19 28 Point
    ∷ field 6 29 30 (Filled 48)
    ∷ field 7 31 35 Descriptor
    ∷ field 8 36 36 (Filled 32)
    ∷ field 9 37 48 Digits
    ∷ field 10 49 61 Digits
    ∷ field 11 62 68 Digits
    ∷ field 12 69 83 Digits
    ∷ field 13 84 98 Digits
    ∷ field 14 99 113 Digits
    ∷ field 15 114 128 Digits
    ∷ field 16 129 129 (Filled 10)
    ∷ []

-- the reference month once more, which has been judged to be line 1's; no point, no descriptor, tariff zero, and the
-- sums; the type is known to be 01
abbrev pub total_forms : List FieldForm
total_forms =
    field 4 13 18 Reference
    ∷ field 5 19 28 (Filled 32)
    ∷ field 7 31 35 (Filled 32)
    ∷ field 8 36 36 (Filled 32)
    ∷ field 9 37 48 Digits
    ∷ field 10 49 61 Digits
    ∷ field 11 62 68 (Filled 48)
    ∷ field 12 69 83 Digits
    ∷ field 13 84 98 Digits
    ∷ field 14 99 113 Digits
    ∷ field 15 114 128 Digits
    ∷ field 16 129 129 (Filled 10)
    ∷ []

-- type 01, in columns 29 and 30
abbrev pub is_total : List ℕ → Bool
is_total line = slice_index line 28 == 48 && slice_index line 29 == 49

-- a line that is not of type 01 is judged as a detail line
abbrev pub body_forms : List ℕ → List FieldForm
body_forms line = cond (is_total line) total_forms detail_forms

-- the first malformed field of a line
abbrev pub line_fault : Bool → List ℕ → List ℕ → Option ℕ
line_fault is_first first line = first_malformed first line (head_forms is_first ++ body_forms line)

-- the columns lie in a line
abbrev pub is_within : FieldForm → Bool
is_within f = nat_le 1 f.first && (nat_le f.first f.last && nat_le f.last 129)

abbrev pub all_within : List FieldForm → Bool
all_within [] = true
all_within (f ∷ fs) = is_within f && all_within fs
