use Rattle.std.proofs.Common.{Err, sym, ap, ◌∙◌}
use Rattle.std.proofs.lemmas.Result.{err_from_is_err_and}
use Rattle.statement.specs.Statement.{model}
use Rattle.statement.proofs.Takes.{placed_yes, placed_no, day_full, same_ledgers}
use Rattle.statement.proofs.statement.Statement.place.Goals as goal

pub returns-in_err-room-2 : goal.returns-in_err-room-2
returns-in_err-room-2 g c =
    let m = model g.L.RowStore g.D.RowStore c.args.self.now in
    let p = err_from_is_err_and c.from_residual-in_err-room-2.result c.from_residual-in_err-room-2.ensures.1 in
    let full = day_full m c.args.line c.args.day (placed_yes _ _ c.in_ok-room.ensures.answer) (placed_no _ _ _ c.in_err-room-2.ensures.answer) in
    record {
      answer = p.1 ∙ ap Err p.2 ∙ sym full.0;
      after = same_ledgers m _ _ (ap g.L.RowStore.ledger c.room.ensures.same) (ap g.D.RowStore.ledger c.room-2.ensures.same) ∙ sym full.1;
    }
