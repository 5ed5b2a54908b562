use Rattle.std.proofs.Common.{ap, ◌∙◌, arith}
use Rattle.digits.specs.Positional.{write_decimal, bytes_of}
use Rattle.images.specs.Fields.{written, traffic_bytes, day_bytes}
use Rattle.images.specs.Written.{five_written}
use Rattle.images.specs.ReadBack.{day_five}
use Rattle.images.proofs.day.write_fields.Goals as goal

pub returns : goal.returns
unfolding day_bytes
returns c =
    let r = c.args.row in
    five_written (write_decimal 8 r.key.day.number) (bytes_of 10 r.key.point.number) (traffic_bytes r.traffic) (write_decimal 6 r.earliest.number) (write_decimal 6 r.latest.number)
    8 18 43 49 55 (day_five r) (omega arith) (omega arith) (omega arith) (omega arith)
    c.args.out.now c.write_number.new.out c.write_text.new.out c.write_traffic.new.out c.write_number-2.new.out c.write_number-3.new.out c.requires
    (c.write_number.ensures ∙ ap (λ n. written 0 (write_decimal 8 n) c.args.out.now) c.number.ensures)
    (c.write_text.ensures ∙ ap (λ n. written 8 (bytes_of 10 n) c.write_number.new.out) c.number-2.ensures)
    c.write_traffic.ensures
    (c.write_number-2.ensures ∙ ap (λ n. written 43 (write_decimal 6 n) c.write_traffic.new.out) c.number-3.ensures)
    (c.write_number-3.ensures ∙ ap (λ n. written 49 (write_decimal 6 n) c.write_number-2.new.out) c.number-4.ensures)
