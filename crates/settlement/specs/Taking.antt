-- A statement as what takes the records of an input, each with the same book.
use Rattle.std.specs.Prelude.{◌≡◌, ℕ, List}
use Rattle.intake.specs.declared.sink.RecordSink as RecordSink
use Rattle.ledger.specs.declared.day.DayKey.{DayKey}
use Rattle.ledger.specs.declared.day.DayRow.{DayRow}
use Rattle.ledger.specs.declared.line.LineKey.{LineKey}
use Rattle.ledger.specs.declared.line.LineRow.{LineRow}
use Rattle.ledger.specs.declared.store.RowStore as RowStore
use Rattle.rating.specs.declared.book.TariffBook as TariffBook
use Rattle.rating.specs.Rating.{book_of}
use Rattle.statement.specs.Statement.{model, take_after}
use Rattle.settlement.specs.declared.taker.Taker.{Taker}

module _ {L D B : Type 0} (line_store : RowStore.Ghosts L LineRow LineKey) (day_store : RowStore.Ghosts D DayRow DayKey) (books : TariffBook.Ghosts B) where
  -- the statement took the record with the book, which stays
  abbrev pub Took : Taker L D B line_store day_store → List ℕ → Taker L D B line_store day_store → Type 0
  Took s bytes t = (model line_store day_store t.statement ≡ take_after (model line_store day_store s.statement) (book_of books s.book) bytes) × (t.book ≡ s.book)

  abbrev pub sinks : RecordSink.Ghosts (Taker L D B line_store day_store)
  sinks = record { takes = Took }
