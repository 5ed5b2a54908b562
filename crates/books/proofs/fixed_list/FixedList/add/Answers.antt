use Rattle.std.proofs.Common.{rules}
use Rattle.std.proofs.lemmas.List.{length_push}
use Rattle.std.proofs.lemmas.List.Elements.{filter_map-append}
use Rattle.books.proofs.fixed_list.FixedList.add.Goals as goal

pub invariant_of-self : goal.invariant_of-self
invariant_of-self g c = record { whole = search (rules, filter_map-append, length_push, c.args.self.now.whole) }

pub returns-clause-after : goal.returns-clause-after
returns-clause-after g c = search (rules, filter_map-append)
