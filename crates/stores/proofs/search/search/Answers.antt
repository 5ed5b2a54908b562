use Rattle.std.proofs.Common.{rules}
use Rattle.std.proofs.lemmas.Fn.{always_returns_same}
use Rattle.stores.specs.Table.{table_rows}
use Rattle.stores.proofs.Searches.{searched}
use Rattle.stores.proofs.search.search.Goals as goal

-- the closure ranks the cells of the table
pub returns-clause-found : goal.returns-clause-found
returns-clause-found g c =
    let t = g.R.TableRow in
    let m = g.met.R.TableRow in
    let table = c.requires in
    let facts = c.binary_search_by.ensures in
    let ranks = facts.position (λ cell. t.cell_order cell c.args.key) (always_returns_same _ _ _ (λ a r h called. (search rules, search rules))) in
    searched g.R.Row.keys g.met.R.Row.ordered t.row_of t.cell_of m.read t.cell_order m.ranked (table_rows t.row_of c.args.cells.now c.args.len) table.rising c.args.key _
    (rw table.counted (search rules)) (rw table.whole at ranks)
