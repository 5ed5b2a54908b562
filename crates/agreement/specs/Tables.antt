-- Rows of equal width; the first row that is malformed, and the first that does not rise.
use Rattle.std.specs.Prelude.{ℕ, ◌/◌, Bool, not, List, length, take, drop, Option}
use Rattle.std.specs.Cmp.Lexicographic.{slice_cmp}
use Rattle.std.specs.List.{position_from, zip}
use Rattle.std.specs.Ordering.{is_lt, nat_cmp}
use Rattle.std.specs.Simd.{first_chunks}
use Rattle.agreement.specs.declared.parts.Part.{Part}
use Rattle.agreement.specs.Parts.{row_width}
use Rattle.agreement.specs.RowFields.{is_row}

-- all rows of a part's body
abbrev pub rows_in_part : Part → List ℕ → List (List ℕ)
rows_in_part part body = first_chunks (row_width part) (length body / row_width part) body

-- the number of the first malformed row, from 1
abbrev pub first_malformed : Part → List (List ℕ) → Option ℕ
first_malformed part rows = position_from (λ row. not (is_row part row)) 1 rows

-- a row and the next: the first k bytes of the next are above those of the row, bytewise
abbrev pub steps_up : ℕ → List ℕ × List ℕ → Bool
steps_up k pair = is_lt (slice_cmp nat_cmp (take k pair.0) (take k pair.1))

-- the number of the first row that is not above the one before it, which is 2 or more
abbrev pub first_not_rising : ℕ → List (List ℕ) → Option ℕ
first_not_rising k rows = position_from (λ pair. not (steps_up k pair)) 2 (zip rows (drop 1 rows))
