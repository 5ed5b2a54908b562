-- The records of an input: a line feed ends each, and a rest that none ends is a record too unless it is empty.
use Rattle.std.specs.Prelude.{ℕ, cond, List, [], ◌∷◌, ◌++◌, ◌==◌}
use Rattle.intake.specs.Lines.{line_feed, has_end}

-- the most bytes that are kept of a record that pieces of the input share
abbrev pub longest_kept : ℕ
longest_kept = 129

-- a byte in front of the first record, where there is one
abbrev pub on_first : ℕ → List (List ℕ) → List (List ℕ)
on_first c [] = []
on_first c (r ∷ rs) = (c ∷ r) ∷ rs

-- the records that a line feed ends
abbrev pub ended_records : List ℕ → List (List ℕ)
ended_records [] = []
ended_records (c ∷ cs) = cond (c == line_feed) ([] ∷ ended_records cs) (on_first c (ended_records cs))

-- the bytes after the last line feed
abbrev pub unended_rest : List ℕ → List ℕ
unended_rest [] = []
unended_rest (c ∷ cs) = cond (has_end (c ∷ cs)) (unended_rest cs) (c ∷ cs)

-- a rest is a record unless it is empty
abbrev pub rest_record : List ℕ → List (List ℕ)
rest_record [] = []
rest_record (c ∷ cs) = (c ∷ cs) ∷ []

abbrev pub records_of : List ℕ → List (List ℕ)
records_of xs = ended_records xs ++ rest_record (unended_rest xs)
