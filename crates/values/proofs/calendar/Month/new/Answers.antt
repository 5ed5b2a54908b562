use Rattle.std.proofs.Common.{sym}
use Rattle.values.specs.Ranges.{month_range}
use Rattle.values.proofs.Backs.{month_back}
use Rattle.values.proofs.calendar.Month.new.Goals as goal

pub invariant_of-result : goal.invariant_of-result
invariant_of-result c = record { ok = month_range c.args.number (sym c.if-is_month.ensures) }

pub returns-then-is_month : goal.returns-then-is_month
returns-then-is_month c = sym (month_back _)
