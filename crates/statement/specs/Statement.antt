-- A statement by its model, and what opening and taking make of it.
use Rattle.std.specs.Prelude.{ℕ, ◌+◌, Bool, true, false, cond, ◌&&◌, List, [], Ok, Err, Result, nat_le}
use Rattle.cdr.specs.Faults.{charge}
use Rattle.cdr.specs.Reader.{read_record}
use Rattle.ledger.specs.Ledger.{Ledger, takes, put_in}
use Rattle.ledger.specs.Rows.{line_keys, join_lines, day_keys, join_days}
use Rattle.ledger.specs.declared.day.DayKey.{DayKey}
use Rattle.ledger.specs.declared.day.DayRow.{DayRow}
use Rattle.ledger.specs.declared.line.LineKey.{LineKey}
use Rattle.ledger.specs.declared.line.LineRow.{LineRow}
use Rattle.ledger.specs.declared.row.Row as Row
use Rattle.ledger.specs.declared.store.RowStore as RowStore
use Rattle.rating.specs.Rating.{Book, rated_by}
use Rattle.values.specs.declared.calendar.Month.{Month}
use Rattle.values.specs.declared.terms.Terms.{Terms}
use Rattle.statement.specs.declared.board.RefusalBoard.{RefusalBoard}
use Rattle.statement.specs.declared.faults.StoreFault.{StoreFault}
use Rattle.statement.specs.declared.faults.StoreFault.TheVariants.{LinesFull, DaysFull}
use Rattle.statement.specs.declared.faults.TakeFault.{TakeFault}
use Rattle.statement.specs.declared.faults.TakeFault.TheVariants.{Spent, Record, Rating, Store}
use Rattle.statement.specs.declared.posting.Booked.{Booked}
use Rattle.statement.specs.declared.posting.Posting.{Posting}
use Rattle.statement.specs.declared.statement.Statement.{Statement}
use Rattle.statement.specs.Board.{clear_board, noted}
use Rattle.statement.specs.Faults.{take_number, take_sequential}
use Rattle.statement.specs.Postings.{posting_of, line_for, day_for, booked_of}

pub record Model : Type 0 where
  pub terms : Terms
  pub reference : Month
  pub lines : Ledger LineRow
  pub days : Ledger DayRow
  pub taken : ℕ
  pub board : RefusalBoard

-- what a statement over two stores means, by what the stores mean
module _ {L D : Type 0} (line_store : RowStore.Ghosts L LineRow LineKey) (day_store : RowStore.Ghosts D DayRow DayKey) where
  abbrev pub model : {line_row : Row.Ghosts LineRow LineKey} {day_row : Row.Ghosts DayRow DayKey} → Statement L D line_store line_row day_store day_row → Model
  model s = record {
    terms = s.basis.terms;
    reference = s.basis.reference;
    lines = line_store.ledger s.lines;
    days = day_store.ledger s.days;
    taken = s.taken;
    board = s.board;
  }

-- a new statement over empty stores that hold at most so many lines and days
abbrev pub opened : Terms → Month → ℕ → ℕ → Model
opened t reference most_lines most_days = record {
  terms = t;
  reference = reference;
  lines = record { rows = []; most = most_lines };
  days = record { rows = []; most = most_days };
  taken = 0;
  board = clear_board;
}

-- whether a line and a day may be put: a new line needs a free row of the lines first
abbrev pub fitted : Bool → Bool → Result (Unit {0}) StoreFault
fitted true true = Ok tt
fitted true false = Err DaysFull
fitted false d = Err LinesFull

abbrev pub placing : Model → LineRow → DayRow → Result (Unit {0}) StoreFault
placing m l d = fitted (takes line_keys l m.lines) (takes day_keys d m.days)

-- a line and a day put
abbrev pub with_rows : Model → LineRow → DayRow → Model
with_rows m l d = record {
  terms = m.terms;
  reference = m.reference;
  lines = put_in line_keys join_lines l m.lines;
  days = put_in day_keys join_days d m.days;
  taken = m.taken;
  board = m.board;
}

abbrev pub after_placing : Model → LineRow → DayRow → Model
after_placing m l d = cond (takes line_keys l m.lines && takes day_keys d m.days) (with_rows m l d) m

-- one record more taken
abbrev pub counted : Model → Model
counted m = record {
  terms = m.terms;
  reference = m.reference;
  lines = m.lines;
  days = m.days;
  taken = m.taken + 1;
  board = m.board;
}

-- a fault counted under its number
abbrev pub with_fault : Model → TakeFault → Model
with_fault m f = record {
  terms = m.terms;
  reference = m.reference;
  lines = m.lines;
  days = m.days;
  taken = m.taken + 1;
  board = noted m.board (take_number f) (take_sequential f);
}

-- go on with a value, or end with the fault as a take's
abbrev pub onward : {T U F : Type 0} → (F → TakeFault) → Result T F → (T → Result U TakeFault) → Result U TakeFault
onward fault (Ok x) next = next x
onward fault (Err f) next = Err (fault f)

-- what is found of a record: by the reader, by rating, by the stores
abbrev pub verdict : Model → Book → List ℕ → Result Posting TakeFault
verdict m b bytes =
    onward Record (read_record bytes) (λ call.
    onward Rating (charge call.sequential (rated_by b m.terms m.reference call)) (λ rated.
    onward Store (charge call.sequential (placing m (line_for (posting_of call rated)) (day_for (posting_of call rated)))) (λ _.
    Ok (posting_of call rated))))

-- a call found sound is put, any other changes nothing
abbrev pub with_found : Model → Result Posting TakeFault → Model
with_found m (Ok p) = with_rows m (line_for p) (day_for p)
with_found m (Err f) = m

abbrev pub answer_of : Result Posting TakeFault → Result Booked TakeFault
answer_of (Ok p) = Ok (booked_of p)
answer_of (Err f) = Err f

abbrev pub after_of : Model → Result Posting TakeFault → Model
after_of m (Ok p) = counted (with_rows m (line_for p) (day_for p))
after_of m (Err f) = with_fault m f

-- a take: its answer, and the statement after it
abbrev pub take_answer : Model → Book → List ℕ → Result Booked TakeFault
take_answer m b bytes = cond (nat_le 2000000 m.taken) (Err Spent) (answer_of (verdict m b bytes))

abbrev pub take_after : Model → Book → List ℕ → Model
take_after m b bytes = cond (nat_le 2000000 m.taken) m (after_of m (verdict m b bytes))
