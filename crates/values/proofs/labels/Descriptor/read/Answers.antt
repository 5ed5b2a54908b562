use Rattle.std.proofs.Common.{◌^◌, ◌<◌, sym, refl, ap, ◌∙◌, arith}
use Rattle.digits.specs.Positional.{big_endian}
use Rattle.values.specs.Labels.{is_descriptor, is_descriptor_number}
use Rattle.values.specs.Values.{descriptor_of}
use Rattle.values.proofs.Backs.{descriptor_back}
use Rattle.values.proofs.LabelLaws.{bytes_read, label_number_lem, label_small, label_named}
use Rattle.values.proofs.labels.Descriptor.read.Goals as goal

pub overflow_cast-number : goal.overflow_cast-number
overflow_cast-number c =
    let small : big_endian c.args.bytes.now < 256 ^ 5 = label_small 5 is_descriptor _ (λ cs. refl) c.args.bytes.now (λ i. omega (arith, c.type_inv.bytes i)) (sym c.if-not-is_descriptor.ensures) in
    let e = bytes_read _ _ c.in_ok-number.ensures.value in
    omega arith

pub invariant_of-result : goal.invariant_of-result
invariant_of-result c = record {
  ok = ap is_descriptor_number (bytes_read _ _ c.in_ok-number.ensures.value)
      ∙ label_number_lem 5 is_descriptor _ (λ cs. refl) c.args.bytes.now (λ i. omega (arith, c.type_inv.bytes i)) (sym c.if-not-is_descriptor.ensures);
}

pub returns : goal.returns
returns c =
    label_named (is_descriptor c.args.bytes.now) descriptor_of c.args.bytes.now _ _ c.if-not-is_descriptor.ensures
    (bytes_read _ _ c.in_ok-number.ensures.value) (descriptor_back _)
