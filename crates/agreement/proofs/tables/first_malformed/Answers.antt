use Rattle.std.proofs.Common.{not, None, Some, ◌∙◌, rules, tests}
use Rattle.std.proofs.lemmas.Iterator.{YieldsList-from_slice}
use Rattle.std.proofs.lemmas.Iterator.Search.{position_from_yields_List}
use Rattle.agreement.specs.RowFields.{is_row}
use Rattle.agreement.proofs.TableLaws.{first_at}
use Rattle.agreement.proofs.tables.first_malformed.Goals as goal

pub returns-in_err-i : goal.returns-in_err-i
returns-in_err-i g c =
    c.from_residual.ensures
    ∙ first_at (λ row. not (is_row c.args.part row)) 1 c.args.rows.now None
    (position_from_yields_List _ _ _ _ c.in_err-i.ensures.ran (YieldsList-from_slice c.args.rows.now cc) (λ x b q k. search (rules, tests)))

pub returns : goal.returns
returns g c =
    first_at (λ row. not (is_row c.args.part row)) 1 c.args.rows.now (Some c.in_ok-i.i)
    (position_from_yields_List _ _ _ _ c.in_ok-i.ensures.ran (YieldsList-from_slice c.args.rows.now cc) (λ x b q k. search (rules, tests)))
