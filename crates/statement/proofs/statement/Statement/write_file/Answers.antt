use Rattle.std.proofs.Common.{refl}
use Rattle.statement.proofs.Same.{same_stores}
use Rattle.statement.proofs.statement.Statement.write_file.Goals as goal

pub returns-clause-same : goal.returns-clause-same
returns-clause-same g c = same_stores c.args.self.now _ _ _ c.write_file.ensures.same refl
