use Rattle.std.proofs.Common.{◌≡◌, ℕ, List, sym, ap, ◌∙◌, subst}
use Rattle.intake.specs.Records.{records_of}
use Rattle.rating.specs.Rating.{Book}
use Rattle.statement.specs.Account.{Reaches}
use Rattle.statement.specs.Statement.{Model, model}
use Rattle.settlement.specs.Settling.{Settling, take_all, account_all}
use Rattle.settlement.proofs.TakeLaws.{taken_all, reached_all}
use Rattle.settlement.proofs.settlement.Settlement.finish.Goals as goal

pub returns : goal.returns
returns g c =
    let settled : (start : Model) (b : Book) (xs : List ℕ) → Settling g.L.RowStore g.D.RowStore g.B.TariffBook start b xs c.args.self → model g.L.RowStore g.D.RowStore c.finish-statement.result.statement ≡ take_all b start (records_of xs) = λ start b xs h.
    taken_all g.L.RowStore g.D.RowStore g.B.TariffBook h.first (records_of xs) c.finish-statement.result (c.finish-statement.ensures.taken h.first xs h.fed)
    ∙ ap (λ k. take_all k (model g.L.RowStore g.D.RowStore h.first.statement) (records_of xs)) h.handed
    ∙ ap (λ m. take_all b m (records_of xs)) h.began in
    record {
      settled = settled;
      reached = λ start b xs a h r. subst (λ m. Reaches m (account_all b start a (records_of xs))) (sym (settled start b xs h)) (reached_all b start a (records_of xs) r);
    }
