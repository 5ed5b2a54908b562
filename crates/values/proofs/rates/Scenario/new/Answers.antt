use Rattle.std.proofs.Common.{sym}
use Rattle.values.proofs.Backs.{scenario_back}
use Rattle.values.proofs.rates.Scenario.new.Goals as goal

pub returns-then-least-le999 : goal.returns-then-least-le999
returns-then-least-le999 c = sym (scenario_back _)
