-- Two statements joined: what is answered, and what becomes of the receiver and of the giver.
use Rattle.std.specs.Prelude.{ℕ, ◌+◌, Bool, cond, ◌&&◌, List, length, Some, None, Ok, Err, Option, Result, ◌==◌, nat_le}
use Rattle.ledger.specs.Ledger.{with_rows}
use Rattle.ledger.specs.Rows.{line_keys, join_lines, day_keys, join_days}
use Rattle.ledger.specs.declared.day.DayRow.{DayRow}
use Rattle.ledger.specs.declared.line.LineRow.{LineRow}
use Rattle.merging.specs.Merges.{merge_rows}
use Rattle.values.specs.declared.terms.Terms.{Terms}
use Rattle.statement.specs.declared.joining.JoinFault.{JoinFault}
use Rattle.statement.specs.declared.joining.JoinFault.TheVariants.{Unlike, TooMany, Lines, Days}
use Rattle.statement.specs.Board.{boards_joined}
use Rattle.statement.specs.Statement.{Model, opened}

abbrev pub join_number : JoinFault → ℕ
join_number Unlike = 14
join_number TooMany = 15
join_number Lines = 16
join_number Days = 16

-- what is returned with a number: which rows are too many, 1 for lines and 2 for days
abbrev pub join_rows : JoinFault → Option ℕ
join_rows Unlike = None
join_rows TooMany = None
join_rows Lines = Some 1
join_rows Days = Some 2

-- the parties, the months back and the rates are the same
abbrev pub same_terms : Terms → Terms → Bool
same_terms t u =
    (t.creditor.code == u.creditor.code)
    && t.debtor.code == u.debtor.code
    && t.back == u.back
    && t.rates.pis == u.rates.pis
    && t.rates.icms == u.rates.icms

abbrev pub is_like : Model → Model → Bool
is_like m g = same_terms m.terms g.terms && m.reference.number == g.reference.number

-- the rows of both, those of one key joined
abbrev pub lines_together : Model → Model → List LineRow
lines_together m g = merge_rows line_keys join_lines m.lines.rows g.lines.rows

abbrev pub days_together : Model → Model → List DayRow
days_together m g = merge_rows day_keys join_days m.days.rows g.days.rows

abbrev pub join_answer : Model → Model → Result (Unit {0}) JoinFault
join_answer m g =
    cond (is_like m g)
    (cond (nat_le (m.taken + g.taken) 2000000)
    (cond (nat_le (length (lines_together m g)) m.lines.most)
    (cond (nat_le (length (days_together m g)) m.days.most)
    (Ok tt)
    (Err Days))
    (Err Lines))
    (Err TooMany))
    (Err Unlike)

-- the receiver with all that the giver has
abbrev pub united : Model → Model → Model
united m g = record {
  terms = m.terms;
  reference = m.reference;
  lines = with_rows m.lines (lines_together m g);
  days = with_rows m.days (days_together m g);
  taken = m.taken + g.taken;
  board = boards_joined m.board g.board;
}

-- the giver as newly opened
abbrev pub emptied : Model → Model
emptied g = opened g.terms g.reference g.lines.most g.days.most

-- both after an answer: a refused join changes neither
abbrev pub receiver_after : Model → Model → Result (Unit {0}) JoinFault → Model
receiver_after m g (Ok x) = united m g
receiver_after m g (Err f) = m

abbrev pub giver_after : Model → Result (Unit {0}) JoinFault → Model
giver_after g (Ok x) = emptied g
giver_after g (Err f) = g
