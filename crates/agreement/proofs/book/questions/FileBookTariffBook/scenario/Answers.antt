use Rattle.std.proofs.lemmas.Bool.{and_parts}
use Rattle.agreement.proofs.book.questions.FileBookTariffBook.scenario.Goals as goal

pub find_scenario-requires : goal.find_scenario-requires
find_scenario-requires c = (and_parts _ _ c.args.self.now.ok).0
