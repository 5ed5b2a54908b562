-- Labels as bytes and as numbers.
use Rattle.std.proofs.Common.{eqb, sym, ap, ◌∙◌, arith}
use Rattle.std.proofs.lemmas.Bool.{eqb-true, eq-eqb}
use Rattle.std.proofs.lemmas.Bool.Decides.{same_from_decides}
use Rattle.std.proofs.lemmas.Slice.Eq.{bytes_eq-Decides}
use Rattle.std.specs.Str.{bytes_eq}
use Rattle.digits.specs.Positional.{big_endian, bytes_of}
use Rattle.digits.proofs.Positional.{bytes_back, number_places}
use Rattle.agreement.specs.Books.{FieldsByNumber}

pub fields_by_number : FieldsByNumber
fields_by_number w n cs l bytes small =
    same_from_decides (bytes_eq cs (bytes_of w n)) (eqb (big_endian cs) n) (bytes_eq-Decides cs (bytes_of w n)) (
      (λ t. let e = eqb-true (big_endian cs) n t in sym (bytes_back cs bytes).0 ∙ ap (λ v. bytes_of v (big_endian cs)) l ∙ ap (bytes_of w) e),
      (λ e. eq-eqb (big_endian cs) n (ap big_endian e ∙ number_places 256 0 w n (omega arith) small)),
    )
