use Rattle.std.proofs.lemmas.Bool.{and_parts}
use Rattle.agreement.proofs.book.questions.FileBookTariffBook.tariff.Goals as goal

pub find_tariff-requires : goal.find_tariff-requires
find_tariff-requires c = (and_parts _ _ c.args.self.now.ok).1
