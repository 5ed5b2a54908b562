use Rattle.std.proofs.Common.{refl, ◌∙◌}
use Rattle.statement.proofs.Same.{same_stores}
use Rattle.statement.proofs.statement.Statement.joinable.Goals as goal

pub returns-then-rows_together-size-clause-receiver : goal.returns-then-rows_together-size-clause-receiver
returns-then-rows_together-size-clause-receiver g c = same_stores c.args.self.now _ _ _ (c.size.ensures.same ∙ c.rows_together.ensures.receiver) refl

pub returns-then-rows_together-size-clause-giver : goal.returns-then-rows_together-size-clause-giver
returns-then-rows_together-size-clause-giver g c = same_stores c.args.giver.now _ _ _ c.rows_together.ensures.giver refl

pub returns-then-rows_together-size-2-clause-receiver : goal.returns-then-rows_together-size-2-clause-receiver
returns-then-rows_together-size-2-clause-receiver g c = same_stores c.args.self.now _ _ _ (c.size.ensures.same ∙ c.rows_together.ensures.receiver) (c.size-2.ensures.same ∙ c.rows_together-2.ensures.receiver)

pub returns-then-rows_together-size-2-clause-giver : goal.returns-then-rows_together-size-2-clause-giver
returns-then-rows_together-size-2-clause-giver g c = same_stores c.args.giver.now _ _ _ c.rows_together.ensures.giver c.rows_together-2.ensures.giver

pub returns-clause-receiver : goal.returns-clause-receiver
returns-clause-receiver g c = same_stores c.args.self.now _ _ _ (c.size.ensures.same ∙ c.rows_together.ensures.receiver) (c.size-2.ensures.same ∙ c.rows_together-2.ensures.receiver)

pub returns-clause-giver : goal.returns-clause-giver
returns-clause-giver g c = same_stores c.args.giver.now _ _ _ c.rows_together.ensures.giver c.rows_together-2.ensures.giver
