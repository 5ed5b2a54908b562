use Rattle.std.proofs.Common.{sym}
use Rattle.ledger.specs.RowLaws.{traffic_back}
use Rattle.ledger.proofs.traffic.Traffic.new.Goals as goal

pub returns-then-tenths-le-MOST_TENTHS : goal.returns-then-tenths-le-MOST_TENTHS
returns-then-tenths-le-MOST_TENTHS c = sym (traffic_back _)
