use Rattle.ledger.specs.Props.{own_of}
use Rattle.stores.specs.Table.{Tabled-prop}
use Rattle.stores.proofs.table.TableStoreRowStore.size.Goals as goal

pub returns-clause-answer : goal.returns-clause-answer
returns-clause-answer g c =
    let t = own_of (Tabled-prop g.row.R-Cell.coded g.R.Row g.R.TableRow c.args.self.now.cells.now c.args.self.now.len) c.requires in
    rw t.counted
