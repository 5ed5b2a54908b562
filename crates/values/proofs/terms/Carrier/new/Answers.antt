use Rattle.std.proofs.Common.{sym}
use Rattle.values.proofs.Backs.{carrier_back}
use Rattle.values.proofs.terms.Carrier.new.Goals as goal

pub returns-then-code-le999 : goal.returns-then-code-le999
returns-then-code-le999 c = sym (carrier_back _)
