use Rattle.std.proofs.Common.{sym}
use Rattle.values.specs.Ranges.{day_range}
use Rattle.values.proofs.Backs.{day_back}
use Rattle.values.proofs.calendar.Day.new.Goals as goal

pub invariant_of-result : goal.invariant_of-result
invariant_of-result c = record { ok = day_range c.args.number (sym c.if-is_day.ensures) }

pub returns-then-is_day : goal.returns-then-is_day
returns-then-is_day c = sym (day_back _)
