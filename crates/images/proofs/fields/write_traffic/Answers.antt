use Rattle.std.proofs.Common.{◌+◌, ap, ◌∙◌, arith}
use Rattle.digits.specs.Positional.{write_decimal}
use Rattle.digits.proofs.Positional.{length_places}
use Rattle.images.specs.Fields.{written, traffic_bytes}
use Rattle.images.specs.Written.{written_on}
use Rattle.images.proofs.fields.write_traffic.Goals as goal

pub returns : goal.returns
unfolding traffic_bytes
returns c =
    let room = c.requires in
    let long = length_places 10 48 12 c.args.traffic.calls in
    c.write_number-2.ensures
    ∙ ap (λ n. written (c.args.at + 12) (write_decimal 13 n) c.write_number.new.out) c.tenths.ensures
    ∙ ap (written (c.args.at + 12) (write_decimal 13 c.args.traffic.tenths)) (c.write_number.ensures ∙ ap (λ n. written c.args.at (write_decimal 12 n) c.args.out.now) c.calls.ensures)
    ∙ written_on c.args.at (c.args.at + 12) (write_decimal 12 c.args.traffic.calls) (write_decimal 13 c.args.traffic.tenths) c.args.out.now (omega arith) (omega arith)
