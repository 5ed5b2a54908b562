use Rattle.std.proofs.Common.{[], refl, ◌∙◌, arith}
use Rattle.rating.specs.Rating.{book_of}
use Rattle.statement.specs.Statement.{model}
use Rattle.settlement.proofs.TakeLaws.{lengths_alike}
use Rattle.settlement.proofs.taker.TakerRecordSink.take_overlong.Goals as goal

pub returns : goal.returns
returns g c = record {
  takes = λ bs long. (
    c.take.ensures.after
        ∙ lengths_alike (model g.L.RowStore g.D.RowStore c.args.self.now.statement) (book_of g.B.TariffBook c.args.self.now.book) [] bs (λ e. omega arith) (λ e. omega arith),
    refl,
  );
}
