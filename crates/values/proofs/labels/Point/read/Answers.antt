use Rattle.std.proofs.Common.{◌≡◌, sym, refl, ap, ◌∙◌, arith}
use Rattle.digits.specs.Positional.{big_endian}
use Rattle.values.specs.Labels.{is_point, is_point_number}
use Rattle.values.specs.Values.{point_of}
use Rattle.values.proofs.Backs.{point_back}
use Rattle.values.proofs.LabelLaws.{bytes_read, label_number_lem, label_named}
use Rattle.values.proofs.labels.Point.read.Goals as goal

pub invariant_of-result : goal.invariant_of-result
invariant_of-result c =
    let e : c.in_ok-number.number ≡ big_endian c.args.bytes.now = bytes_read _ _ c.in_ok-number.ensures.value in record {
      ok = ap is_point_number e
          ∙ label_number_lem 10 is_point _ (λ cs. refl) c.args.bytes.now (λ i. omega (arith, c.type_inv.bytes i)) (sym c.if-not-is_point.ensures);
    }

pub returns : goal.returns
returns c =
    let e : c.in_ok-number.number ≡ big_endian c.args.bytes.now = bytes_read _ _ c.in_ok-number.ensures.value in
    label_named (is_point c.args.bytes.now) point_of c.args.bytes.now _ _ c.if-not-is_point.ensures e (point_back _)
