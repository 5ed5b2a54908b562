use Rattle.intake.specs.Records.{unended_rest}
use Rattle.intake.proofs.StreamLaws.{ends_rest}
use Rattle.intake.proofs.Intake.end_rest.Goals as goal

pub returns-then-not-holds_nothing : goal.returns-then-not-holds_nothing
returns-then-not-holds_nothing g c = record {
  taken = λ start xs fed.
      ends_rest g.S.RecordSink start c.end_held.new.self.sink xs c.args.self.now c.if-not-holds_nothing.ensures fed (c.end_held.ensures.taken (unended_rest xs) fed.rest).1;
}
