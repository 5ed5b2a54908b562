use Rattle.ledger.specs.Rows.{plus}
use Rattle.ledger.specs.RowLaws.{same_traffic}
use Rattle.ledger.proofs.traffic.Traffic.plus.Goals as goal

pub returns : goal.returns
returns c = same_traffic _ (plus c.args.self c.args.other) c.min.ensures c.min-2.ensures
