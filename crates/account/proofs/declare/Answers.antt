use Rattle.std.proofs.Common.{rules}
use Rattle.account.proofs.Accounts as accounts
use Rattle.account.proofs.declare.Goals as goal

pub returns : goal.returns
returns g c = record { answer = search rules; after = search rules; same = search rules; settled = accounts.settled }
