use Rattle.std.proofs.Common.{sym, ap, ◌∙◌}
use Rattle.ledger.specs.Ledger.{next_row}
use Rattle.stores.specs.Table.{table_rows}
use Rattle.ledger.specs.Ledgers.{next_first}
use Rattle.stores.proofs.Searches.{next_held, next_new}
use Rattle.stores.proofs.search.next_at.Goals as goal

pub returns-in_default : goal.returns-in_default
returns-in_default g c = sym (next_first g.R.Row.keys g.met.R.Row.ordered c.args.after _ c.in_default.not-Some)

pub returns-in-Ok : goal.returns-in-Ok
returns-in-Ok g c =
    let rows = table_rows g.R.TableRow.row_of c.args.cells.now c.args.len in
    sym (ap (λ v. next_row g.R.Row.keys v rows) c.in-Some.is ∙ next_held g.R.Row.keys g.met.R.Row.ordered rows c.requires.rising c.in-Some.key c.in-Ok.at c.in-Ok.ensures.found)

pub returns-in-Err : goal.returns-in-Err
returns-in-Err g c =
    let rows = table_rows g.R.TableRow.row_of c.args.cells.now c.args.len in
    sym (ap (λ v. next_row g.R.Row.keys v rows) c.in-Some.is ∙ next_new g.R.Row.keys g.met.R.Row.ordered rows c.requires.rising c.in-Some.key c.in-Err.at c.in-Err.ensures.found)
