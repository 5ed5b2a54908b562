-- A statement is told by what it holds: its law is a fact of that.
use Rattle.std.proofs.Common.{◌≡◌}
use mathlib.Core.HLevel.{Σ_prop_path}
use Rattle.ledger.specs.declared.day.DayKey.{DayKey}
use Rattle.ledger.specs.declared.day.DayRow.{DayRow}
use Rattle.ledger.specs.declared.line.LineKey.{LineKey}
use Rattle.ledger.specs.declared.line.LineRow.{LineRow}
use Rattle.ledger.specs.declared.row.Row as Row
use Rattle.ledger.specs.declared.store.RowStore as RowStore
use Rattle.statement.specs.declared.statement.Statement.{Statement}
use Rattle.statement.specs.Law.{Kept, Kept-prop}

module _ {L D : Type 0} {line_store : RowStore.Ghosts L LineRow LineKey} {day_store : RowStore.Ghosts D DayRow DayKey} {line_row : Row.Ghosts LineRow LineKey} {day_row : Row.Ghosts DayRow DayKey}
    (s : Statement L D line_store line_row day_store day_row) where
  pub same_stores : (l : L) (d : D) (k : Kept line_store day_store l d s.taken s.board) → l ≡ s.lines → d ≡ s.days
      → ◌≡◌ {A = Statement L D line_store line_row day_store day_row} (record { basis = s.basis; lines = l; days = d; taken = s.taken; board = s.board; kept = k }) s
  same_stores l d k e f =
      let stores : ◌≡◌ {A = L × D} (l, d) (s.lines, s.days) = λ i. (e i, f i) in
      let whole : ◌≡◌ {A = (x : L × D) × Kept line_store day_store x.0 x.1 s.taken s.board} ((l, d), k) ((s.lines, s.days), s.kept) =
      Σ_prop_path (λ x. Kept-prop line_store day_store x.0 x.1 s.taken s.board) stores in
      λ i. record { basis = s.basis; lines = (whole i).0.0; days = (whole i).0.1; taken = s.taken; board = s.board; kept = (whole i).1 }
