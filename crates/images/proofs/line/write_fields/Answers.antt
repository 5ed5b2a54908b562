use Rattle.std.proofs.Common.{ap, ◌∙◌, arith}
use Rattle.digits.specs.Positional.{write_decimal, bytes_of}
use Rattle.images.specs.Fields.{written, traffic_bytes, line_bytes}
use Rattle.images.specs.Written.{five_written}
use Rattle.images.specs.ReadBack.{line_five}
use Rattle.images.proofs.line.write_fields.Goals as goal

pub returns : goal.returns
unfolding line_bytes
returns c =
    let r = c.args.row in
    five_written (write_decimal 6 r.key.month.number) (bytes_of 10 r.key.point.number) (bytes_of 5 r.key.descriptor.number) (traffic_bytes r.traffic) (write_decimal 7 r.key.tariff.number)
    6 16 21 46 53 (line_five r) (omega arith) (omega arith) (omega arith) (omega arith)
    c.args.out.now c.write_number.new.out c.write_text.new.out c.write_text-2.new.out c.write_traffic.new.out c.write_number-2.new.out c.requires
    (c.write_number.ensures ∙ ap (λ n. written 0 (write_decimal 6 n) c.args.out.now) c.number.ensures)
    (c.write_text.ensures ∙ ap (λ n. written 6 (bytes_of 10 n) c.write_number.new.out) c.number-2.ensures)
    (c.write_text-2.ensures ∙ ap (λ n. written 16 (bytes_of 5 n) c.write_text.new.out) c.number-3.ensures)
    c.write_traffic.ensures
    (c.write_number-2.ensures ∙ ap (λ n. written 46 (write_decimal 7 n) c.write_traffic.new.out) c.number-4.ensures)
