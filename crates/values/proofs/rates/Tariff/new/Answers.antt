use Rattle.std.proofs.Common.{sym}
use Rattle.values.proofs.Backs.{tariff_back}
use Rattle.values.proofs.rates.Tariff.new.Goals as goal

pub returns-then-number-le9999999 : goal.returns-then-number-le9999999
returns-then-number-le9999999 c = sym (tariff_back _)
