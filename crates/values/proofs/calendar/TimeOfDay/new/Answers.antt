use Rattle.std.proofs.Common.{sym}
use Rattle.values.proofs.Backs.{time_back}
use Rattle.values.proofs.calendar.TimeOfDay.new.Goals as goal

pub returns-then-number-lt60-2 : goal.returns-then-number-lt60-2
returns-then-number-lt60-2 c = sym (time_back _)
