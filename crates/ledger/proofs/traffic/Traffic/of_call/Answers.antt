use Rattle.std.proofs.Common.{refl}
use Rattle.ledger.specs.Rows.{of_call}
use Rattle.ledger.specs.RowLaws.{same_traffic}
use Rattle.ledger.proofs.traffic.Traffic.of_call.Goals as goal

pub returns : goal.returns
returns c = same_traffic _ (of_call c.args.tenths) refl c.min.ensures
