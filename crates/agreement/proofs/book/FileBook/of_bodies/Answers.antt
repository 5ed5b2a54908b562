use Rattle.agreement.specs.Views.{seen}
use Rattle.agreement.proofs.SoundLaws.{judged_sound}
use Rattle.agreement.proofs.book.FileBook.of_bodies.Goals as goal

pub over-requires-clause-scenarios : goal.over-requires-clause-scenarios
over-requires-clause-scenarios c = (judged_sound (seen c.args.bodies.now) _ c.in-Ok.ensures).0

pub over-requires-clause-tariffs : goal.over-requires-clause-tariffs
over-requires-clause-tariffs c = (judged_sound (seen c.args.bodies.now) _ c.in-Ok.ensures).1
