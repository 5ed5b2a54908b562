-- The law of a statement, which its type keeps: its stores are kept, and it has counted what it took.
use Rattle.std.specs.Prelude.{ℕ, ◌≤◌}
use Rattle.std.proofs.Math.Bridge.{le_prop}
use Rattle.ledger.specs.Ledger.{Kept as StoreKept}
use Rattle.ledger.specs.Props.{Kept-prop as StoreKept-prop}
use Rattle.ledger.specs.Rows.{line_keys, day_keys}
use Rattle.ledger.specs.declared.day.DayKey.{DayKey}
use Rattle.ledger.specs.declared.day.DayRow.{DayRow}
use Rattle.ledger.specs.declared.line.LineKey.{LineKey}
use Rattle.ledger.specs.declared.line.LineRow.{LineRow}
use Rattle.ledger.specs.declared.store.RowStore as RowStore
use Rattle.statement.specs.declared.board.RefusalBoard.{RefusalBoard}
use Rattle.statement.specs.Board.{tally_at}

module _ {L D : Type 0} (line_store : RowStore.Ghosts L LineRow LineKey) (day_store : RowStore.Ghosts D DayRow DayKey) where
  pub record Kept (line_rows : L) (day_rows : D) (records : ℕ) (refusals : RefusalBoard) : Type 0 where
    pub lines : StoreKept line_keys (line_store.ledger line_rows) (line_store.kept line_rows)
    pub days : StoreKept day_keys (day_store.ledger day_rows) (day_store.kept day_rows)
    pub taken : records ≤ 2000000
    pub counts : (i : ℕ) → (tally_at refusals i).count ≤ records

  pub Kept-prop : (line_rows : L) (day_rows : D) (records : ℕ) (refusals : RefusalBoard) → IsProp (Kept line_rows day_rows records refusals)
  Kept-prop line_rows day_rows records refusals u v = λ i. record {
    lines = StoreKept-prop line_keys (line_store.ledger line_rows) (line_store.kept line_rows) u.lines v.lines i;
    days = StoreKept-prop day_keys (day_store.ledger day_rows) (day_store.kept day_rows) u.days v.days i;
    taken = le_prop u.taken v.taken i;
    counts = λ k. le_prop (u.counts k) (v.counts k) i;
  }
