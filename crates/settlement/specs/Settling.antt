-- The settlement of an input: the reference month's line, then the records, in whatever pieces they come.
use Rattle.std.specs.Prelude.{◌≡◌, ℕ, cond, ◌&&◌, List, [], ◌∷◌, length, take, None, Option, ◌==◌, slice_index}
use Rattle.intake.specs.Stream.{Fed}
use Rattle.ledger.specs.declared.day.DayKey.{DayKey}
use Rattle.ledger.specs.declared.day.DayRow.{DayRow}
use Rattle.ledger.specs.declared.line.LineKey.{LineKey}
use Rattle.ledger.specs.declared.line.LineRow.{LineRow}
use Rattle.ledger.specs.declared.store.RowStore as RowStore
use Rattle.rating.specs.declared.book.TariffBook as TariffBook
use Rattle.rating.specs.Rating.{Book, book_of}
use Rattle.statement.specs.Account.{Entry, take_noted}
use Rattle.statement.specs.Statement.{Model, model, take_answer, take_after}
use Rattle.values.specs.Values.{month_in}
use Rattle.values.specs.declared.calendar.Month.{Month}
use Rattle.settlement.specs.declared.settlement.Settlement.{Settlement}
use Rattle.settlement.specs.declared.taker.Taker.{Taker}
use Rattle.settlement.specs.Taking.{sinks}

-- six digits of a month, then 0A hex, and nothing else
abbrev pub month_line : List ℕ → Option Month
month_line cs = cond (length cs == 7 && slice_index cs 6 == 10) (month_in (take 6 cs)) None

-- the statement after these records, taken one after the other with one book
abbrev pub take_all : Book → Model → List (List ℕ) → Model
take_all b m [] = m
take_all b m (r ∷ rs) = take_all b (take_after m b r) rs

-- its account
abbrev pub account_all : Book → Model → List Entry → List (List ℕ) → List Entry
account_all b m a [] = a
account_all b m a (r ∷ rs) = account_all b (take_after m b r) (take_noted a b r (take_answer m b r)) rs

module _ {L D B : Type 0} (line_store : RowStore.Ghosts L LineRow LineKey) (day_store : RowStore.Ghosts D DayRow DayKey) (books : TariffBook.Ghosts B) where
  -- s began with the statement `start` and a book, and was fed the bytes xs, in whatever pieces
  pub record Settling (start : Model) (b : Book) (xs : List ℕ) (s : Settlement L D B line_store day_store) : Type 0 where
    pub first : Taker L D B line_store day_store
    pub fed : Fed (sinks line_store day_store books) first xs s.intake
    pub began : model line_store day_store first.statement ≡ start
    pub handed : book_of books first.book ≡ b
