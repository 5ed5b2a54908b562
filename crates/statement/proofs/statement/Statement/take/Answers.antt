use Rattle.std.proofs.Common.{Ok, sym, ap, ◌∙◌, arith}
use Rattle.rating.specs.Rating.{book_of}
use Rattle.statement.specs.Statement.{model, counted, with_fault}
use Rattle.statement.proofs.Reached.{reached_take}
use Rattle.statement.proofs.Takes.{verdict_counted, take_booked, take_refused}
use Rattle.statement.proofs.statement.Statement.take.Goals as goal

pub note-requires : goal.note-requires
note-requires g c =
    let m = model g.L.RowStore g.D.RowStore c.args.self.now in
    let after = ap (λ x. x.taken) c.in-Err.ensures.after in
    record {
      room = omega (arith, c.if-self-ge-MOST_TAKEN.false, after);
      counted = verdict_counted m (book_of g.B.TariffBook c.args.book.now) c.args.bytes.now c.in-Err.fault (sym c.in-Err.ensures.answer);
    }

pub returns-in-Ok : goal.returns-in-Ok
returns-in-Ok g c =
    let m = model g.L.RowStore g.D.RowStore c.args.self.now in
    let t = take_booked m (book_of g.B.TariffBook c.args.book.now) c.args.bytes.now c.in-Ok.posting c.if-self-ge-MOST_TAKEN.false c.in-Ok.ensures.answer in
    let after = ap (λ x. x.taken) c.in-Ok.ensures.after in
    let answer = ap Ok c.booked.ensures ∙ sym t.0 in
    let after-take = ap counted c.in-Ok.ensures.after ∙ sym t.1 in
    record {
      answer = answer;
      after = after-take;
      reached = reached_take m _ _ _ _ answer after-take;
    }

pub returns-in-Err : goal.returns-in-Err
returns-in-Err g c =
    let m = model g.L.RowStore g.D.RowStore c.args.self.now in
    let t = take_refused m (book_of g.B.TariffBook c.args.book.now) c.args.bytes.now c.in-Err.fault c.if-self-ge-MOST_TAKEN.false c.in-Err.ensures.answer in
    let after-take = c.note.ensures.after ∙ ap (λ x. with_fault x c.in-Err.fault) c.in-Err.ensures.after ∙ sym t.1 in
    record {
      answer = sym t.0;
      after = after-take;
      reached = reached_take m _ _ _ _ (sym t.0) after-take;
    }
