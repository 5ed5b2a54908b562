use Rattle.std.proofs.Common.{sym}
use Rattle.values.proofs.Backs.{terms_back}
use Rattle.values.proofs.terms.Terms.new.Goals as goal

pub returns-then-back-le2 : goal.returns-then-back-le2
returns-then-back-le2 c = sym (terms_back _)
