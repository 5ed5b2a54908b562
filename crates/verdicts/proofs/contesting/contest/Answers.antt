use Rattle.std.proofs.Common.{arith}
use Rattle.std.proofs.lemmas.Result.{err_from_is_err_and}
use Rattle.declared.specs.File.{seen_file}
use Rattle.rating.specs.Rating.{book_of}
use Rattle.verdicts.proofs.AcceptedLaws.{asks, file_details, refused_answer, refused_after, given_answer, given_after}
use Rattle.verdicts.proofs.contesting.contest.Goals as goal

pub returns-in_err-admit : goal.returns-in_err-admit
returns-in_err-admit g c =
    let p = err_from_is_err_and c.from_residual-in_err-admit.result c.from_residual-in_err-admit.ensures.1 in
    let a = asks c.args.out.now (seen_file c.in_ok-file.file) c.in_ok-file.ensures.value c.basis-basis.ensures.terms c.basis-basis.ensures.reference c.head.ensures c.detail_count-count.ensures in
    record {
      answer = rw (p.1, p.2) (refused_answer a _ c.in_err-admit.ensures.value);
      after = refused_after a _ c.in_err-admit.ensures.value (book_of g.B.TariffBook c.args.book.now);
    }

pub write_verdicts-requires : goal.write_verdicts-requires
write_verdicts-requires g c =
    let all = file_details c.args.bytes.now (seen_file c.in_ok-file.file) c.in_ok-file.ensures.value in
    let count = c.detail_count-count.ensures in
    omega (arith, c.in_ok-admit.ensures.fits)

pub returns : goal.returns
returns g c =
    let a = asks c.args.out.now (seen_file c.in_ok-file.file) c.in_ok-file.ensures.value c.basis-basis.ensures.terms c.basis-basis.ensures.reference c.head.ensures c.detail_count-count.ensures in
    record {
      answer = given_answer a c.in_ok-admit.ensures.value;
      after = given_after a c.in_ok-admit.ensures.value (book_of g.B.TariffBook c.args.book.now) c.write_verdicts.new.out c.write_verdicts.ensures;
    }
