use Rattle.std.proofs.Common.{[], ◌∷◌, ◌++◌, refl, ap, ◌∙◌}
use Rattle.digits.specs.Positional.{bytes_of, write_decimal}
use Rattle.agreement.proofs.KeyLaws.{key_written}
use Rattle.agreement.proofs.lookup.key_from.Goals as goal

pub returns : goal.returns
returns c =
    key_written 10 48 (0 ∷ 0 ∷ 0 ∷ 0 ∷ 0 ∷ 0 ∷ 0 ∷ 0 ∷ 0 ∷ 0 ∷ 0 ∷ 0 ∷ 0 ∷ 0 ∷ 0 ∷ 0 ∷ 0 ∷ 0 ∷ 0 ∷ 0 ∷ 0 ∷ 0 ∷ 0 ∷ []) c.write_be.new.out c.write_be-2.new.out c.write_decimal.new.out
    c.number.result c.number-2.result c.number-3.result refl
    c.write_be.ensures c.write_be-2.ensures c.write_decimal.ensures.after
    ∙ ap (λ v. bytes_of 10 v ++ (bytes_of 5 c.number-2.result ++ write_decimal 8 c.number-3.result)) c.number.ensures
    ∙ ap (λ v. bytes_of 10 c.args.point.number ++ (bytes_of 5 v ++ write_decimal 8 c.number-3.result)) c.number-2.ensures
    ∙ ap (λ v. bytes_of 10 c.args.point.number ++ (bytes_of 5 c.args.descriptor.number ++ write_decimal 8 v)) c.number-3.ensures
