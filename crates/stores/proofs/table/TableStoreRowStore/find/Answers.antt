use Rattle.ledger.specs.Props.{own_of}
use Rattle.stores.specs.Table.{Tabled-prop}
use Rattle.stores.proofs.table.TableStoreRowStore.find.Goals as goal

pub find_row-requires : goal.find_row-requires
find_row-requires g c = own_of (Tabled-prop g.row.R-Cell.coded g.R.Row g.R.TableRow c.args.self.now.cells.now c.args.self.now.len) c.requires
