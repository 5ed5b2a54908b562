use Rattle.std.proofs.Common.{refl}
use Rattle.values.proofs.Backs.{same_month}
use Rattle.values.proofs.calendar.Day.month.Goals as goal

pub returns : goal.returns
returns c = same_month _ _ refl
