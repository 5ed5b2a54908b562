use Rattle.std.proofs.Common.{sym}
use Rattle.values.proofs.Backs.{rates_back}
use Rattle.values.proofs.rates.TaxRates.new.Goals as goal

pub returns-then-icms-pis : goal.returns-then-icms-pis
returns-then-icms-pis c = sym (rates_back _)
