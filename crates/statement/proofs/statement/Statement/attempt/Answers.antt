use Rattle.std.proofs.Common.{◌≡◌, Ok, Err, sym, ap, ◌∙◌}
use Rattle.std.proofs.lemmas.Result.{err_from_is_err_and}
use Rattle.cdr.specs.Faults.{charge}
use Rattle.rating.specs.Rating.{book_of}
use Rattle.statement.specs.declared.faults.TakeFault.TheVariants.{Store}
use Rattle.statement.specs.Postings.{posting_of, line_for, day_for}
use Rattle.statement.specs.Statement.{model, placing, onward, with_found, with_rows}
use Rattle.statement.proofs.Takes.{verdict_rated, charged_ok, charged_err, both_put, none_put}
use Rattle.statement.proofs.statement.Statement.attempt.Goals as goal

pub returns-in_err-charge_to : goal.returns-in_err-charge_to
returns-in_err-charge_to g c =
    let m = model g.L.RowStore g.D.RowStore c.args.self.now in
    let b = book_of g.B.TariffBook c.args.book.now in
    let call = c.in_ok-call.call in
    let rated = c.in_ok-rated.rated in
    let q = err_from_is_err_and c.from_residual-in_err-charge_to.result c.from_residual-in_err-charge_to.ensures.1 in
    let v = verdict_rated m b c.args.bytes.now call rated c.in_ok-call.ensures (c.in_ok-rated.ensures ∙ ap (charge call.sequential) c.rate.ensures) in
    let line : c.line.result ≡ line_for (posting_of call rated) = c.line.ensures ∙ ap line_for c.new-posting.ensures in
    let day : c.day.result ≡ day_for (posting_of call rated) = c.day.ensures ∙ ap day_for c.new-posting.ensures in
    let put : c.place.result ≡ placing m (line_for (posting_of call rated)) (day_for (posting_of call rated)) = c.place.ensures.answer ∙ ap (λ x. placing m x c.day.result) line ∙ ap (placing m (line_for (posting_of call rated))) day in
    record {
      answer = q.1 ∙ ap Err q.2 ∙ sym (v ∙ ap (λ r. onward Store r (λ _. Ok (posting_of call rated))) (ap (charge call.sequential) (sym put) ∙ sym c.in_err-charge_to.ensures));
      after = c.place.ensures.after ∙ none_put m _ _ _ (sym c.place.ensures.answer ∙ charged_err call.sequential _ _ c.in_err-charge_to.ensures) ∙ sym (ap (with_found m) q.1);
    }

pub returns : goal.returns
returns g c =
    let m = model g.L.RowStore g.D.RowStore c.args.self.now in
    let b = book_of g.B.TariffBook c.args.book.now in
    let call = c.in_ok-call.call in
    let rated = c.in_ok-rated.rated in
    let v = verdict_rated m b c.args.bytes.now call rated c.in_ok-call.ensures (c.in_ok-rated.ensures ∙ ap (charge call.sequential) c.rate.ensures) in
    let line : c.line.result ≡ line_for (posting_of call rated) = c.line.ensures ∙ ap line_for c.new-posting.ensures in
    let day : c.day.result ≡ day_for (posting_of call rated) = c.day.ensures ∙ ap day_for c.new-posting.ensures in
    let put : c.place.result ≡ placing m (line_for (posting_of call rated)) (day_for (posting_of call rated)) = c.place.ensures.answer ∙ ap (λ x. placing m x c.day.result) line ∙ ap (placing m (line_for (posting_of call rated))) day in
    record {
      answer = ap Ok c.new-posting.ensures ∙ sym (v ∙ ap (λ r. onward Store r (λ _. Ok (posting_of call rated))) (ap (charge call.sequential) (sym put) ∙ sym c.in_ok-charge_to.ensures));
      after = c.place.ensures.after ∙ both_put m _ _ (sym c.place.ensures.answer ∙ charged_ok call.sequential _ _ c.in_ok-charge_to.ensures) ∙ ap (λ x. with_rows m x c.day.result) c.line.ensures ∙ ap (with_rows m (line_for c.new-posting.result)) c.day.ensures;
    }
