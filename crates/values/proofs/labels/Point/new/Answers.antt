use Rattle.std.proofs.Common.{sym}
use Rattle.values.proofs.Backs.{point_back}
use Rattle.values.proofs.labels.Point.new.Goals as goal

pub returns-then-is_point : goal.returns-then-is_point
returns-then-is_point c = sym (point_back _)
