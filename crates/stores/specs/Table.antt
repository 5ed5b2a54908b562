-- A table: the rows that the first cells of a slice hold.
use Rattle.std.specs.Prelude.{◌≡◌, ℕ, ◌≤◌, true, false, List, [], ◌∷◌, ◌++◌, map, length, take, Ok, Err, Option, Result}
use Rattle.std.specs.Option.{option_to_list}
use Rattle.std.specs.Coded.{Coded, Coded-set, coded_list, coded_ℕ}
use Rattle.std.proofs.Math.Bridge.{le_prop}
use Rattle.ledger.specs.Keys.{KeyOps}
use Rattle.ledger.specs.Ledger.{Ledger, Rising, put_row, takes, with_rows}
use Rattle.ledger.specs.Props.{Rising-prop}
use Rattle.ledger.specs.declared.row.Row as Row
use Rattle.ledger.specs.declared.row.TableRow as TableRow
use Rattle.ledger.specs.declared.store.Full.{Full}

-- the rows of cells, in their order
abbrev pub rows_of : {C R : Type 0} → (C → Option R) → List C → List R
rows_of of [] = []
rows_of of (c ∷ cs) = option_to_list (of c) ++ rows_of of cs

-- the rows of the first n cells
abbrev pub table_rows : {C R : Type 0} → (C → Option R) → List C → ℕ → List R
table_rows of cells n = rows_of of (take n cells)

-- the first n cells hold one row each, and the keys rise
pub record Table {K C R : Type 0} (o : KeyOps K R) (of : C → Option R) (cell : R → C) (cells : List C) (n : ℕ) : Type 0 where
  pub within : n ≤ length cells
  pub whole : take n cells ≡ map cell (table_rows of cells n)
  pub counted : length (table_rows of cells n) ≡ n
  pub rising : Rising o (table_rows of cells n)

-- the ledger that the first n cells stand for: their rows, and at most a row for each cell
abbrev pub table_ledger : {C R : Type 0} → (C → Option R) → List C → ℕ → Ledger R
table_ledger of cells n = record { rows = table_rows of cells n; most = length cells }

-- what a put leaves of a table of n rows: a table of m rows with the row taken, or the row handed back and the cells as they were
abbrev pub TablePut : {K C R : Type 0} → KeyOps K R → (C → Option R) → (R → C) → (R → R → R) → R → List C → ℕ → List C → Result ℕ (Full R) → Type 0
TablePut o of cell join r old n new (Ok m) =
    Table o of cell new m
    × (takes o r (table_ledger of old n) ≡ true)
    × (table_ledger of new m ≡ with_rows (table_ledger of old n) (put_row o join r (table_rows of old n)))
TablePut o of cell join r old n new (Err e) = (takes o r (table_ledger of old n) ≡ false) × (e ≡ record { row = r }) × (new ≡ old)

-- the same of a row type, by what it says of its rows and of its cells
abbrev pub rows_in : {K C R : Type 0} → TableRow.Ghosts R C K → List C → ℕ → List R
rows_in table cells n = table_rows table.row_of cells n

abbrev pub ledger_in : {K C R : Type 0} → TableRow.Ghosts R C K → List C → ℕ → Ledger R
ledger_in table cells n = table_ledger table.row_of cells n

abbrev pub Tabled : {K C R : Type 0} → Row.Ghosts R K → TableRow.Ghosts R C K → List C → ℕ → Type 0
Tabled row table cells n = Table row.keys table.row_of table.cell_of cells n

abbrev pub Put : {K C R : Type 0} → Row.Ghosts R K → TableRow.Ghosts R C K → R → List C → ℕ → List C → Result ℕ (Full R) → Type 0
Put row table r old n new answer = TablePut row.keys table.row_of table.cell_of row.joined r old n new answer

pub Tabled-prop : {K C R : Type 0} → Coded C → (row : Row.Ghosts R K) (table : TableRow.Ghosts R C K) (cells : List C) (n : ℕ) → IsProp (Tabled row table cells n)
Tabled-prop code row table cells n u v = λ i. record {
  within = le_prop u.within v.within i;
  whole = Coded-set (coded_list code) _ _ u.whole v.whole i;
  counted = Coded-set coded_ℕ _ _ u.counted v.counted i;
  rising = Rising-prop row.keys (rows_in table cells n) u.rising v.rising i;
}
